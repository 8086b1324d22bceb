-- What is known of a part at each place of a run, whatever is written or copied: who may be read,
-- who copies under `resync`, whose slots are pending, and that numbers are in range.
use Rattle.std.specs.Prelude.{◌≡◌, ◌≢◌, ℕ, ◌<◌, true, false, not, Some, None, [], is_some}
use Rattle.mdc_types.specs.Geometry.{IsGeometry, chunks_of, nodes_of}
use Rattle.mdc_types.specs.declared.roles.NodeState.TheVariants as states
use Rattle.msg_rounds.specs.Phases.{is_idle, has_published}
use Rattle.leg_failure.specs.Views.{works}
use Rattle.mirror_io.specs.Flight.{write_in}
use Rattle.mirror_io.specs.declared.live.LiveWrite.{LiveWrite}
use Rattle.node_recovery.specs.Progress.{Recovering}
use Rattle.resync_worker.specs.Copying.{Passing}
use Rattle.resync_worker.specs.declared.buffer.Buffer.{Buffer}
use Rattle.cluster_model.specs.State.{Held, NotAsked}
use Rattle.cluster_model.specs.Changes.{no_copy}
use Rattle.cluster_model.specs.Guards.{is_out}
use Rattle.cluster_model.specs.Phases.{is_in, is_up, is_unclean, is_metadata, offers}
use Rattle.laws_locks.specs.Rounded.{has_token, stands}
use Rattle.laws_roles.proofs.Numbers.{Numbers}
use Rattle.laws_roles.proofs.Roles.{Roles}
use Rattle.laws_roles.proofs.Additions.{Additions}
use Rattle.laws_roles.proofs.Sources.{Sources}
use Rattle.laws_roles.proofs.Parts.{is_loaded}
use Rattle.storage_ways.proofs.Parts.{Part, roles_of, read_leg, has_pass}

-- who isn't up writes, copies, marks and recovers nothing
pub record Rests (w : Part) : Type 0 where
  pub writes : (n : ℕ) → is_up (w.state n) ≡ false → w.writes n ≡ []
  pub copy : (n : ℕ) → is_up (w.state n) ≡ false → w.copy n ≡ no_copy
  pub recovery : (n : ℕ) → is_up (w.state n) ≡ false → w.recovery n ≡ None
  pub set : (n c : ℕ) → is_up (w.state n) ≡ false → (w.bitmap n).set c ≡ false
  pub need : (n c : ℕ) → is_up (w.state n) ≡ false → (w.bitmap n).need c ≡ false

-- one node copies, and recovers another's pending slot, under `resync`
pub record Turns (w : Part) : Type 0 where
  pub one : (n m : ℕ) → (w.copy n).turn ≡ Held → (w.copy m).turn ≡ Held → n ≡ m
  pub recovery : (n : ℕ) → is_some (w.recovery n) ≡ true → (w.copy n).turn ≡ Held
  pub slot : (n : ℕ) (r : Recovering) → w.recovery n ≡ Some r → w.pending r.slot ≡ true
  pub other : (n : ℕ) (r : Recovering) → w.recovery n ≡ Some r → r.slot ≢ n
  pub unclean : (n : ℕ) → offers is_unclean (w.offer n) ≡ true → (w.copy n).turn ≡ NotAsked
  pub pass : (n : ℕ) → has_pass (w.copy n) ≡ true → (w.copy n).turn ≡ Held

-- states, members and senders
pub record Phases (w : Part) : Type 0 where
  pub live : (n : ℕ) → w.live n ≡ not (is_out (w.state n))
  pub pending : (d : ℕ) → w.pending d ≡ true → w.state d ≡ states.Out
  pub below : (n : ℕ) → is_out (w.state n) ≡ false → n < 16
  -- one node has the token; an offer stands with its sender, a loaded node's is `meta`
  pub alone : (n m : ℕ) → has_token (w.sender n) ≡ true → has_token (w.sender m) ≡ true → n ≡ m
  pub stands : (n : ℕ) → is_some (w.offer n) ≡ stands (w.sender n)
  pub offering : (n : ℕ) → is_some (w.offer n) ≡ true → is_in (w.state n) ≡ true
  pub meta : (n : ℕ) → is_some (w.offer n) ≡ true → is_up (w.state n) ≡ false → offers is_metadata (w.offer n) ≡ true
  -- receivers are up, and who is busy while somebody has published hears him
  pub hearers : (n : ℕ) → is_up (w.state n) ≡ false → is_idle (w.receiver n).phase ≡ true
  pub from : (n m : ℕ) → has_published (w.sender n) ≡ true → is_idle (w.receiver m).phase ≡ false → (w.receiver m).from ≡ n
  pub gone : (n m : ℕ) → has_published (w.sender n) ≡ true → is_idle (w.receiver m).phase ≡ false → (w.receiver m).gone ≡ false
  pub sending : (n : ℕ) → has_published (w.sender n) ≡ true → is_idle (w.receiver n).phase ≡ true
  pub loaded : (n : ℕ) → is_loaded (w.state n) ≡ true → has_token (w.sender n) ≡ true
  pub slots : (d : ℕ) → w.pending d ≡ true → d < 16

-- chunks, sectors and ranges lie within the room
pub record Within (w : Part) : Type 0 where
  pub geometry : IsGeometry w.geometry
  pub set : (n c : ℕ) → (w.bitmap n).set c ≡ true → c < chunks_of w.geometry
  pub need : (n c : ℕ) → (w.bitmap n).need c ≡ true → c < chunks_of w.geometry
  pub todo : (n c : ℕ) (p : Passing) → (w.copy n).pass ≡ Some p → p.todo c ≡ true → c < chunks_of w.geometry
  pub buffer : (n : ℕ) (p : Passing) (b : Buffer) → (w.copy n).pass ≡ Some p → p.buffer ≡ Some b → b.sector < w.geometry.room
  pub found : (n c : ℕ) (r : Recovering) → w.recovery n ≡ Some r → r.found c ≡ true → c < chunks_of w.geometry
  pub gathered : (n c : ℕ) → (w.adding n).gathering.gathered c ≡ true → c < chunks_of w.geometry
  pub bits : (k c l : ℕ) → w.bit k c l ≡ true → c < chunks_of w.geometry
  pub slots : (k c l : ℕ) → w.bit k c l ≡ true → k < nodes_of w.geometry
  pub writes : (n k : ℕ) (x : LiveWrite) → write_in k (w.writes n) ≡ Some x → x.sector < w.geometry.room

pub record Sound (w : Part) : Type 0 where
  pub numbers : Numbers (roles_of w)
  pub roles : Roles (roles_of w)
  pub additions : Additions (roles_of w)
  pub sources : Sources (roles_of w)
  pub phases : Phases w
  pub turns : Turns w
  pub rests : Rests w
  pub within : Within w
  -- who is in has a leg to read from
  pub serves : (n : ℕ) → is_in (w.state n) ≡ true → works (w.view n) (read_leg w n) ≡ true
