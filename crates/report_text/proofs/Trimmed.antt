-- What is trimmed of bytes, by their last.
use Rattle.std.proofs.Common.{◌≡◌, ◌≢◌, ℕ, zero, suc, List, [], ◌∷◌, ◌++◌, refl, ap}
use Rattle.report_text.specs.Values.{trimmed, kept_before}

pub trimmed-append_zero : (bytes : List ℕ) → trimmed (bytes ++ (0 ∷ [])) ≡ trimmed bytes
trimmed-append_zero [] = refl
trimmed-append_zero (byte ∷ bytes) = ap (kept_before byte) (trimmed-append_zero bytes)

-- bytes before one that stays do
kept_before-append : (byte last : ℕ) (bytes : List ℕ) → kept_before byte (bytes ++ (last ∷ [])) ≡ byte ∷ (bytes ++ (last ∷ []))
kept_before-append zero last [] = refl
kept_before-append zero last (b ∷ bytes) = refl
kept_before-append (suc n) last [] = refl
kept_before-append (suc n) last (b ∷ bytes) = refl

pub trimmed-append : (bytes : List ℕ) (last : ℕ) → last ≢ 0 → trimmed (bytes ++ (last ∷ [])) ≡ bytes ++ (last ∷ [])
trimmed-append [] zero more = absurd (more refl)
trimmed-append [] (suc n) more = refl
trimmed-append (byte ∷ bytes) last more = rw (trimmed-append bytes last more) (kept_before-append byte last bytes)
