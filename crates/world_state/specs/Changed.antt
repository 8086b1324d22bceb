-- Words for changes that several rows make.
use Rattle.std.specs.Prelude.{ℕ, Bool, false, ◌==◌, if◌then◌else◌, Option, None}
use Rattle.std.specs.Option.{option_map}
use Rattle.mdc_types.specs.declared.numbers.Range.{Range}
use Rattle.resync_worker.specs.Copying.{covering_only}
use Rattle.mdc_types.specs.declared.roles.NodeState.TheVariants.{Out}
use Rattle.dlm_space.specs.Locks.{new_locks}
use Rattle.md_superblock.specs.Arrays.{Array}
use Rattle.msg_rounds.specs.Phases.{new_receiving}
use Rattle.msg_rounds.specs.declared.phases.SenderPhase.TheVariants.{Idle}
use Rattle.node_member.specs.Members.{Members}
use Rattle.node_requests.specs.Requests.{AllRequests, writes_of, reads_of}
use Rattle.node_requests.specs.Requests.{writes_made_of, reads_made_of}
use Rattle.node_bits.specs.Bitmaps.{Maps, bitmaps_of}
use Rattle.node_copies.specs.Copies.{Copyings, copies_of}
use Rattle.node_copies.specs.Recoveries.{Progresses, recoveries_of}
use Rattle.node_copies.specs.Additions.{Addings, adding_of}
use Rattle.cluster_model.specs.State.{Core, Copy, Untried}
use Rattle.cluster_model.specs.Changes.{no_view}

-- the pass, if there is one, covers these legs alone
abbrev pub covering_legs : Copy → (ℕ → Bool) → Copy
covering_legs c legs = record c { pass = option_map (λ p. covering_only p legs) c.pass }

-- nothing is suspended at the node
abbrev pub ranges_dropped : (ℕ → ℕ → Option Range) → ℕ → ℕ → ℕ → Option Range
ranges_dropped suspended n m owner = if m == n then None else suspended m owner

-- nobody is in, over these tables
abbrev pub nobody_in : Array → Members → AllRequests → Maps → Copyings → Progresses → Addings → Core
nobody_in array members requests bitmaps copies recoveries additions = record {
  array = array;
  state = λ n. Out;
  view = λ n. no_view;
  head = λ n l. 0;
  writes = writes_of requests;
  reads = reads_of requests;
  writes_made = writes_made_of requests;
  reads_made = reads_made_of requests;
  locks = new_locks;
  sender = λ n. Idle;
  offer = λ n. None;
  receiver = λ n. new_receiving;
  heard = λ n. None;
  tried = λ n l. Untried;
  members = members;
  cut = λ n l. false;
  bitmap = bitmaps_of bitmaps;
  suspended = λ n owner. None;
  copy = copies_of copies;
  recovery = recoveries_of recoveries;
  adding = adding_of additions;
}
