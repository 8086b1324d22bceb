use Rattle.std.proofs.Common.{◌≡◌, ap, subst, string_bytes}
use Rattle.report_text.specs.Queries.{compared_line}
use Rattle.cluster_core.specs.World.{Seen}
use Rattle.script_play.proofs.Played.{if_ok}
use Rattle.script_play.proofs.drivers.take_compare.Goals as goal

pub returns-clause-ok : goal.returns-clause-ok
returns-clause-ok g c =
    let found = c.in_ok-found.ensures in
    if_ok c.compared_text.result (λ t says. record {
      reads = record {
        kept = ap (λ (w : Seen). w.kept) found.same;
        past = ap (λ (w : Seen). w.past) found.same;
        holds = found.holds;
      };
      answer = c.in_ok-found.found;
      compares = found.ok;
      tells = found.told;
      says = subst (λ answer. string_bytes t ≡ compared_line answer) c.compared_of.ensures says;
    }) c.compared_text.ensures
