-- What holds of bits, windows, contents, recoveries and intent at an opening.
use Rattle.std.proofs.Common.{◌≡◌, ℕ, ◌<◌, ◌||◌, if◌then◌else◌, Bool, true, false, [], ◌∷◌, Option, None, refl, subst, arith}
use Rattle.std.specs.Prelude.{nat_lt}
use Rattle.std.proofs.lemmas.Bool.Decides.{nat_tests}
use Rattle.mdc_types.specs.Bits.{has_bit}
use Rattle.mdc_types.specs.Sectors.{zero_sector}
use Rattle.cluster_model.specs.State.{State, Core}
use Rattle.cluster_model.specs.Opening.{Origin, core_at, bitmap_at}
use Rattle.cluster_model.specs.Contents.{SoundOpening}
use Rattle.cluster_model.specs.Stored.{data_on}
use Rattle.md_superblock.specs.Arrays.{Says}
use Rattle.plain_history.specs.History.{values_at}
use Rattle.laws_roles.specs.Laws.{Tells}
use Rattle.laws_roles.proofs.Parts.{ghost_at}
use Rattle.storage_ways.proofs.Opening.{Begins, begins}
use Rattle.storage_ways.proofs.Runs.{At}
use Rattle.storage_ways.proofs.Parts.{Part, part_of, bits_on, told_by}
use Rattle.laws_writes.proofs.Ghosts.{Ghost, is_open}
use Rattle.laws_writes.proofs.Bits.{Bits}
use Rattle.laws_writes.proofs.Windows.{Windows}
use Rattle.laws_writes.proofs.Contents.{Contents}
use Rattle.laws_writes.proofs.Pages.{Pages}
use Rattle.laws_writes.proofs.Intent.{Intents}
use Rattle.laws_writes.proofs.FirstKeepers.{first_ghost, first_keeper, first_values, first_some, first_bit, first_pending, keeper_out}

module _ (o : Origin) (start : State) (sound : SoundOpening o start) (tells : Tells o start) (sup : ℕ → Option Says) (home : ℕ) where
  begun : Begins o start.legs (At o start sound.opens tells [] start)
  begun = begins o start sound.opens tells

  marked : (n c l : ℕ) → (bitmap_at o n).marks c l ≡ true → bits_on o.sizes start.legs n c l ≡ true
  marked = subst (λ (core : Core). (n c l : ℕ) → (core.bitmap n).marks c l ≡ true → bits_on o.sizes start.legs n c l ≡ true) sound.opens.core begun.mark_bit

  told_none : (m : ℕ) → told_by (core_at o).locks m ≡ None
  told_none = subst (λ (core : Core). (m : ℕ) → told_by core.locks m ≡ None) sound.opens.core begun.told

  abbrev pub First : Part
  First = part_of (core_at o) sup (bits_on o.sizes start.legs) (data_on o.sizes start.legs) (ghost_at o home) (values_at o.base) (λ n s. false) (λ n s. false) 0

  abbrev ghost : Ghost
  ghost = first_ghost o start.legs

  pub first_bits : Bits First
  first_bits = record {
    mark_bit = λ n c l e. marked n c l e;
    need_set = λ n c e. cc;
    write_set = λ n k s e. cc;
    one_writer = λ n m k j s e f. cc;
    one_write = λ n m k j s e f. cc;
  }

  pub first_windows : Windows First
  first_windows = record {
    list_own = λ n m up waits. refl;
    window_own = λ n e. cc;
    range_own = λ n e. cc;
    range_shut = λ n e. refl;
    no_write_there = λ n m k s lt e. cc;
    loaded_own = λ n m e. refl;
    block_own = λ m lt. told_none m;
    own_why = λ m e. cc;
    own_up = λ m e. refl;
    no_list = λ m k e. refl;
    range_form = λ n r x e f. cc;
    own_form = λ m r e. cc;
    own_some = λ m r e. cc;
    window_pass = λ n e. cc;
    range_pass = λ n e. cc;
  }

  within : (s : ℕ) → is_open (first_values o s) ≡ true → s < o.sizes.room
  within s e = by (nat_lt s o.sizes.room) refl e
    where
      by : (b : Bool) → nat_lt s o.sizes.room ≡ b → is_open (if b then values_at o.base s else zero_sector ∷ []) ≡ true → s < o.sizes.room
      by true t e = grind (arith, nat_tests)
      by false t e = cc

  pub first_contents : Contents First ghost
  first_contents = record {
    buffer_place = λ n p b e f. cc;
    reached_place = λ n lt. absurd (omega arith);
    reached_within = λ n lt. absurd (omega arith);
    settled_decided = λ n s e. cc;
    buffer_done = λ n l p b e f g. cc;
    done_holds = λ n k l x e f. cc;
    done_started = λ n k l e. cc;
    started_value = λ n k x e f. cc;
    started_undecided = λ n k s e f. cc;
    covered_settled = λ n l s e f. cc;
    broke_live = λ n s e. cc;
    broke_need = λ n s e. cc;
    broke_undecided = λ n s e. cc;
    undecided_within = λ s e. within s e;
    some_value = λ s. first_some o start sound s;
  }

  pub first_pages : Pages First
  first_pages = record {
    no_heir = λ d e. refl;
    recovery_heir = λ n d e. cc;
    read_found = λ n d c l e f g. cc;
    cleared = λ n d c l e f. cc;
  }

  or_second : (a b : Bool) → b ≡ true → (a || b) ≡ true
  or_second a b e = grind arith

  pub first_intents : Intents First ghost
  first_intents = record {
    keeper = λ s two. or_second (has_bit o.members (first_keeper o start.legs s)) (has_bit o.pending (first_keeper o start.legs s)) (first_pending o start sound s two);
    keeper_bit = λ s l two good. first_bit o start sound s l two good;
    keeper_need = λ s two live. let out = keeper_out o start sound s two in cc;
    keeper_read = λ s m two e f. cc;
    covered_intent = λ n l s e f two. cc;
    again_intent = λ n l s e two f g. cc;
  }
