-- What a command answers, by how its text was printed.
use Rattle.std.proofs.Common.{◌≡◌, ℕ, List, [], refl, subst, sym, inl, inr}
use Rattle.image_ends.specs.Answers.{Answers}
use Rattle.image_ends.specs.Seen.{SinkSeen, Wrote, WroteNothing}
use Rattle.image_ends.specs.Told.{Told, ToldOrNot}
use Rattle.image_ends.specs.Told.Told.{all, less}
use Rattle.image_ends.specs.declared.ends.CommandEnd.{CommandEnd}
use Rattle.image_ends.specs.declared.ends.CommandEnd.TheVariants as ends

-- an end at which a text is printed
abbrev pub IsPrinted : CommandEnd → Type 0
IsPrinted ends.Done = Unit {0}
IsPrinted (ends.Image l f) = Unit {0}
IsPrinted (ends.Shelf l) = Unit {0}
IsPrinted (ends.ShelfTo l) = Unit {0}
IsPrinted ends.Write = ⊥
IsPrinted ends.Memory = ⊥

printed : (Ends : CommandEnd → List ℕ → Type 0) (k : SinkSeen) (text : List ℕ) (end : CommandEnd)
    → IsPrinted end → Ends end text → Wrote k text → Answers Ends k end
printed Ends k text ends.Done is so w = (text, (so, w))
printed Ends k text (ends.Image l f) is so w = (text, (so, w))
printed Ends k text (ends.Shelf l) is so w = (text, (so, w))
printed Ends k text (ends.ShelfTo l) is so w = (text, (so, w))
printed Ends k text ends.Write is so w = absurd is
printed Ends k text ends.Memory is so w = absurd is

-- the text was printed as far as it could be
pub told_answers : (Ends : CommandEnd → List ℕ → Type 0) (k : SinkSeen) (text : List ℕ) (end result : CommandEnd)
    → IsPrinted end → Ends end text → Told k text end result → Answers Ends k result
told_answers Ends k text end result is so (all w) = printed Ends k text end is so w
told_answers Ends k text end result is so (less rose w) = (rose, (end, (text, (so, w))))

wanting : (Ends : CommandEnd → List ℕ → Type 0) (k : SinkSeen) (result : CommandEnd)
    → Ends ends.Memory [] → WroteNothing k → result ≡ ends.Memory → Answers Ends k result
wanting Ends k ends.Memory so nothing is = (nothing, so)
wanting Ends k ends.Done so nothing is = absurd (cc is)
wanting Ends k ends.Write so nothing is = absurd (cc is)
wanting Ends k (ends.Shelf l) so nothing is = absurd (cc is)
wanting Ends k (ends.ShelfTo l) so nothing is = absurd (cc is)
wanting Ends k (ends.Image l f) so nothing is = absurd (cc is)

-- nothing is printed for want of memory
pub nothing_answers : (Ends : CommandEnd → List ℕ → Type 0) (k : SinkSeen) (result : CommandEnd)
    → Ends ends.Memory [] → (result ≡ ends.Memory) × WroteNothing k → Answers Ends k result
nothing_answers Ends k result so none = wanting Ends k result so none.1 none.0

-- the text was printed, if there was memory for it
pub text_answers : (Ends : CommandEnd → List ℕ → Type 0) (k : SinkSeen) (text : List ℕ) (end result : CommandEnd)
    → IsPrinted end → Ends end text → Ends ends.Memory [] → ToldOrNot k text end result → Answers Ends k result
text_answers Ends k text end result is so want (inl told) = told_answers Ends k text end result is so told
text_answers Ends k text end result is so want (inr none) = nothing_answers Ends k result want none
