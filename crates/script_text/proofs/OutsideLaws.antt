-- What is taken or written in several calls.
use Rattle.std.proofs.Common.{◌≡◌, ℕ, ◌+◌, ◌-◌, ◌≤◌, List, [], ◌++◌, length, take, drop, Option, Some, None, refl, ap, sym, ◌∙◌, arith}
use Rattle.std.proofs.Math.Seq.{take-add}
use Rattle.std.proofs.lemmas.List.{append_assoc, append-nil, length-drop, drop-drop, take_rest}
use Rattle.script_text.specs.Outside.{with_front, with_back}

pub with_back-with_back : (written : Option (List ℕ)) (a b : List ℕ) → with_back (with_back written a) b ≡ with_back written (a ++ b)
with_back-with_back None a b = refl
with_back-with_back (Some w) a b = ap Some (append_assoc w a b)

pub with_back-nil : (written : Option (List ℕ)) → with_back written [] ≡ written
with_back-nil None = refl
with_back-nil (Some w) = ap Some (append-nil w)

pub with_front-with_front : (a b : List ℕ) (left : Option (List ℕ)) → with_front a (with_front b left) ≡ with_front (a ++ b) left
with_front-with_front a b None = refl
with_front-with_front a b (Some l) = ap Some (sym (append_assoc a b l))

pub with_front-nil : (left : Option (List ℕ)) → with_front [] left ≡ left
with_front-nil None = refl
with_front-nil (Some l) = refl

-- a front of the bytes is written, and these are the rest
pub record WroteTo (before : Option (List ℕ)) (bytes rest : List ℕ) (now : Option (List ℕ)) : Type 0 where
  pub n : ℕ
  pub within : n ≤ length bytes
  pub rest_is : rest ≡ drop n bytes
  pub written : now ≡ with_back before (take n bytes)

pub wrote_more : (before now after : Option (List ℕ)) (bytes rest : List ℕ) (k : ℕ) → WroteTo before bytes rest now → k ≤ length rest → after ≡ with_back now (take k rest) → WroteTo before bytes (take (length rest - k) (drop k rest)) after
wrote_more before now after bytes rest k w le is = record {
  n = w.n + k;
  within = omega (arith, w.within, le, ap length w.rest_is, length-drop w.n bytes);
  rest_is = take_rest rest k ∙ (ap (drop k) w.rest_is ∙ drop-drop k w.n bytes);
  written = is ∙ (ap (λ o. with_back o (take k rest)) w.written ∙ (with_back-with_back before (take w.n bytes) (take k rest)
      ∙ ap (with_back before) (ap (λ r. take w.n bytes ++ take k r) w.rest_is ∙ sym (take-add w.n k bytes))));
}
