-- What drivers and comparisons tell, as their texts have it.
use Rattle.auto_driver.specs.declared.counting.Summary.{Summary}
use Rattle.leg_comparison.specs.declared.comparing.Comparison.{Comparison}
use Rattle.leg_comparison.specs.declared.comparing.Comparison.TheVariants as found
use Rattle.cluster_core.specs.declared.world.StepEnd.{StepEnd}
use Rattle.cluster_core.specs.declared.world.StepEnd.TheVariants as steps
use Rattle.report_text.specs.declared.drivers.StormCounts.{StormCounts}
use Rattle.report_text.specs.declared.queries.Compared.{Compared}
use Rattle.report_text.specs.declared.queries.Compared.TheVariants as told
use Rattle.script_play.specs.declared.playing.LineEnd.{LineEnd}
use Rattle.script_play.specs.declared.playing.LineEnd.TheVariants as lines

abbrev pub counts_of : Summary → StormCounts
counts_of s = record {
  turns = s.turns;
  events = s.events;
  refused = s.refused;
  writes = s.writes;
  ended = s.ended;
  reads = s.reads;
  deaths = s.deaths;
  recovered = s.recovered;
}

abbrev pub compared_of : Comparison → Compared
compared_of found.Equal = told.Equal
compared_of (found.Differ s) = told.Differ s
compared_of (found.Unread l) = told.Unread l

-- how a line ends whose events weren't all made. A driver makes no event that is refused
abbrev pub line_end : StepEnd → LineEnd
line_end steps.TraceFull = lines.TraceFull
line_end steps.Memory = lines.Memory
line_end (steps.Refused why) = lines.Memory
