-- Nobody is in.
use Rattle.std.proofs.Common.{◌≡◌, ℕ, Bool, true, false, if◌then◌else◌, ◌&&◌, ◌==◌, refl, ap, sym, ◌∙◌, [], None}
use Rattle.std.proofs.Math.Path.{fun_ext}
use Rattle.dlm_modes.specs.declared.mode.Mode.TheVariants.{CR}
use Rattle.dlm_space.specs.Locks.{new_lock, new_locks}
use Rattle.md_superblock.specs.Arrays.{Array}
use Rattle.msg_rounds.specs.Locks.{ack_res}
use Rattle.node_member.specs.Members.{Members, new_members}
use Rattle.node_requests.specs.Requests.{AllRequests, writes_of, reads_of, writes_made_of, reads_made_of}
use Rattle.node_bits.specs.Bitmaps.{Maps, bitmaps_of}
use Rattle.node_bitmaps.specs.Bitmap.{empty}
use Rattle.node_copies.specs.Copies.{Copyings, copies_of}
use Rattle.node_copies.specs.Recoveries.{Progresses, recoveries_of}
use Rattle.node_copies.specs.Additions.{Addings, adding_of}
use Rattle.cluster_model.specs.Opening.{Origin, array_of}
use Rattle.cluster_model.specs.Changes.{no_new_dev, no_copy, not_adding}
use Rattle.world_state.specs.Changed.{nobody_in}
use Rattle.world_openings.specs.Members.{opened_with, locks_with, held_with, slot_with}

either_way : {A : Type 0} (b : Bool) (x y : A) → x ≡ y → (if b then x else y) ≡ y
either_way true x y e = e
either_way false x y e = refl

none_and : (b : Bool) → (b && false) ≡ false
none_and true = refl
none_and false = refl

no_slot : (r : ℕ) → slot_with (λ n. false) r ≡ new_lock
no_slot r = ap (λ h. record new_lock { held = h }) (fun_ext (λ n. rw (none_and (n == r)) refl))

no_locks : locks_with (λ n. false) ≡ new_locks
no_locks = fun_ext (λ r. either_way (r == ack_res) new_lock _ (sym_inner r) ∙ inner r) where
  inner : (r : ℕ) → (if r == no_new_dev then held_with (λ n. false) CR else slot_with (λ n. false) r) ≡ new_lock
  inner r = either_way (r == no_new_dev) new_lock (slot_with (λ n. false) r) (sym (no_slot r)) ∙ no_slot r

  sym_inner : (r : ℕ) → new_lock ≡ (if r == no_new_dev then held_with (λ n. false) CR else slot_with (λ n. false) r)
  sym_inner r = sym (inner r)

pub same_members : (a b p q e f : ℕ) → a ≡ b → p ≡ q → e ≡ f → new_members a p e ≡ new_members b q f
same_members a b p q e f x y z = rw (x, y, z) refl

pub nobody : (o : Origin) (a : Array) (m : Members) (r : AllRequests) (b : Maps) (c : Copyings) (p : Progresses) (ad : Addings)
    → a ≡ array_of o → m ≡ new_members o.members o.pending o.events
    → writes_of r ≡ (λ n. []) → reads_of r ≡ (λ n. []) → writes_made_of r ≡ (λ n. 0) → reads_made_of r ≡ (λ n. 0)
    → bitmaps_of b ≡ (λ n. empty) → copies_of c ≡ (λ n. no_copy) → recoveries_of p ≡ (λ n. None) → adding_of ad ≡ (λ n. not_adding)
    → nobody_in a m r b c p ad ≡ opened_with o (λ n. false)
nobody o a m r b c p ad e f g h i j k l q s = same no_locks where
  same : locks_with (λ n. false) ≡ new_locks → nobody_in a m r b c p ad ≡ opened_with o (λ n. false)
  same t = rw (t, e, f, g, h, i, j, k, l, q, s) refl
