-- What calls of a shelf in memory change, and what they leave as it was.
use Rattle.std.proofs.Common.{◌≡◌, ℕ, List, ap, refl, Option, Some, Bool, true, false, ◌∙◌, sym, Result, Ok, Err, cond}
use Rattle.std.proofs.Math.Path.{fun_ext}
use Rattle.std.specs.Prelude.{MatchResult, IsErr}
use Rattle.std.specs.Option.{option_map}
use Rattle.std.specs.Str.{bytes_eq}
use Rattle.std.proofs.lemmas.Slice.Eq.{bytes_eq-Decides}
use Rattle.leg_shelf.specs.Shelves.{Files, put_file, OthersStay}
use Rattle.leg_shelf.specs.Memory.{mem_of, told}
use Rattle.leg_shelf.specs.declared.memory.MemShelf.{MemShelf}

-- the same files are told alike
pub told_kept : (s t : MemShelf) → t.files ≡ s.files → told (mem_of t) ≡ told (mem_of s)
told_kept s t e = ap (λ f. told (mem_of (record s { files = f }))) e

same_again : (files : Files) (name m : List ℕ) (b : Bool) → (b ≡ true → name ≡ m) → files m ≡ cond b (files name) (files m)
same_again files name m true same = ap files (sym (same refl))
same_again files name m false same = refl

-- what stands under a name may be put there again
pub put_same : (files : Files) (name : List ℕ) → Some files ≡ put_file (Some files) name (files name)
put_same files name = ap Some (fun_ext (λ m. same_again files name m (bytes_eq name m) (bytes_eq-Decides name m).0))

-- the other names stay where all names do
pub others_told : (s t : MemShelf) (name : List ℕ) → told (mem_of t) ≡ told (mem_of s)
    → OthersStay (told (mem_of s)) name (told (mem_of t))
others_told s t name e = ((mem_of s).files name, e ∙ put_same (mem_of s).files name)

pub others_kept : (s t : MemShelf) (name : List ℕ) → t.files ≡ s.files
    → OthersStay (told (mem_of s)) name (told (mem_of t))
others_kept s t name e = others_told s t name (told_kept s t e)

-- what holds of every error holds of one
pub in_err : {T E : Type 0} (P : T → Type 0) (Q : E → Type 0) (r : Result T E) → IsErr r → ((e : E) → Q e) → MatchResult r P Q
in_err P Q (Ok v) is each = absurd (cc is)
in_err P Q (Err e) is each = each e

pub mapped : {X Y : Type 0} (f : X → Y) (b : Bool) (u v : Option X) → option_map f (cond b u v) ≡ cond b (option_map f u) (option_map f v)
mapped f true u v = refl
mapped f false u v = refl
