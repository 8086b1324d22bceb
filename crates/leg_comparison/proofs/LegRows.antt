-- Legs read one after another.
use Rattle.std.proofs.Common.{◌≡◌, ⊎_elim, true≢false, if◌then◌else◌, ℕ, zero, suc, ◌+◌, ◌<◌, ◌≤◌, Bool, true, false, List, [], ◌∷◌, ◌++◌, length, Option, Some, None, refl, sym, ap, subst, ◌∙◌, arith, Ok, Result}
use Rattle.std.specs.Prelude.{reverse, IfSome, not, ◌&&◌}
use Rattle.std.proofs.lemmas.Bool.{cases_lt}
use Rattle.mdc_types.specs.Roles.{is_working}
use Rattle.laws_sound.specs.Legs.{LegsFit}
use Rattle.std.proofs.lemmas.List.{reverse-append, length-reverse}
use Rattle.std.proofs.lemmas.Grind.{reverse_onto}
use Rattle.dlm_modes.proofs.FirstLaws.{first_such_some}
use Rattle.mdc_types.specs.Geometry.{Sizes, data_offset}
use Rattle.mdc_types.specs.declared.numbers.Sector.{Sector}
use Rattle.mdc_types.specs.declared.failed.Failed.{Failed}
use Rattle.leg_failure.specs.Views.{works}
use Rattle.cluster_model.specs.State.{Core, sizes}
use Rattle.crew_check.specs.Rows.{Kept, IsKeptOf, first_where_two_differ}
use Rattle.driver_rules.specs.Wants.{least_member}
use Rattle.driver_rules.specs.Storms.{those_below}
use Rattle.world_state.specs.Told.{LegsSeen, Received, told_by}
use Rattle.cluster_model.specs.State as machine
use Rattle.std.specs.List.{range_with_len}
use Rattle.std.specs.Prelude.{map}
use Rattle.std.proofs.lemmas.List.FromFn.{map-range_with_len_more}
use Rattle.std.proofs.lemmas.List.{reverse-reverse}
use Rattle.leg_comparison.specs.Reads.{Gave, GaveAll, Failing, HoldSame, TakesIn, Row, AllGave, legs_in, sectors_in}
use Rattle.leg_comparison.specs.Compared.{working_below, Compares, AllRead, ReadFailed, told, data_of, data_of_all, difference, TellsOfContents}
use Rattle.leg_comparison.specs.declared.comparing.Comparison.{Comparison}
use Rattle.leg_comparison.specs.declared.comparing.Comparison.TheVariants.{Unread}

-- one sector more
pub gave_more : (g : Sizes) (l : ℕ) (start mid end : LegsSeen) (sectors more : List Sector) (v : Sector) (at s : ℕ)
    → Gave g l start (reverse sectors) mid → Received false l at (Ok v) mid end
    → length sectors ≡ s → at ≡ data_offset g + s → more ≡ sectors ++ v ∷ []
    → Gave g l start (reverse more) end
gave_more g l start mid end sectors more v at s gave received long place is =
    let back : reverse more ≡ v ∷ reverse sectors = ap reverse is ∙ reverse-append sectors (v ∷ []) in
    let count : at ≡ data_offset g + length (reverse sectors) = place ∙ ap (λ k. data_offset g + k) (sym long ∙ sym (length-reverse sectors)) in
    subst (λ vs. Gave g l start vs end) (sym back) (mid, gave, subst (λ k. Received false l k (Ok v) mid end) count received)

-- how far a comparison has come: the legs below l were read
pub record IsBelow (core : Core) (n l : ℕ) (before now : LegsSeen) (kept : Kept) : Type 0 where
  pub rows : List Row
  pub legs : legs_in rows ≡ reverse (working_below core n l)
  pub gave : AllGave (sizes core) before rows now
  pub is_kept : IsKeptOf (sizes core).room (sectors_in rows) kept

below-start : (test : ℕ → Bool) → those_below test 0 ≡ []
unfolding those_below
below-start test = refl

below-more : (test : ℕ → Bool) (n : ℕ) → test n ≡ true → those_below test (n + 1) ≡ those_below test n ++ n ∷ []
unfolding those_below
below-more test n passes = let e : n + 1 ≡ suc n = omega arith in rw (e, passes) refl

below-same : (test : ℕ → Bool) (n : ℕ) → test n ≡ false → those_below test (n + 1) ≡ those_below test n
unfolding those_below
below-same test n fails = let e : n + 1 ≡ suc n = omega arith in rw (e, fails) refl

pub begins : (core : Core) (n : ℕ) (before : LegsSeen) (kept : Kept) → IsKeptOf (sizes core).room [] kept → IsBelow core n 0 before before kept
begins core n before kept is = record {
  rows = [];
  legs = sym (ap reverse (below-start (works (core.view n))));
  gave = refl;
  is_kept = is;
}

-- a leg that the node doesn't read from
pub leaves_out : (core : Core) (n l : ℕ) (before now : LegsSeen) (kept : Kept) → IsBelow core n l before now kept → works (core.view n) l ≡ false → IsBelow core n (l + 1) before now kept
leaves_out core n l before now kept is idle = record {
  rows = is.rows;
  legs = is.legs ∙ sym (ap reverse (below-same (works (core.view n)) l idle));
  gave = is.gave;
  is_kept = is.is_kept;
}

-- one leg more
pub takes_in : (core : Core) (n l : ℕ) (before mid now : LegsSeen) (kept later : Kept) → IsBelow core n l before mid kept → works (core.view n) l ≡ true
    → TakesIn (sizes core) l mid now kept later → IsBelow core n (l + 1) before now later
takes_in core n l before mid now kept later is reads takes =
    let row : Row = record { leg = l; sectors = takes.sectors } in
    record {
      rows = row ∷ is.rows;
      legs = ap (λ ls. l ∷ ls) is.legs ∙ sym (reverse-append (working_below core n l) (l ∷ [])) ∙ sym (ap reverse (below-more (works (core.view n)) l reads));
      gave = (mid, is.gave, takes.gave);
      is_kept = takes.adds (sectors_in is.rows) is.is_kept;
    }

-- rows of one length fit
pub first_fits : (m : ℕ) (rows : List (List Sector)) (kept : Kept) → IsKeptOf m rows kept → IfSome kept.first (λ a. length a ≡ m)
first_fits m rows kept is = fits kept.first is.lengths
  where
    fits : (o : Option (List Sector)) → ((a : List Sector) → o ≡ Some a → length a ≡ m) → IfSome o (λ a. length a ≡ m)
    fits None f = tt
    fits (Some a) f = f a refl

pub same_length : (m : ℕ) (row : List Sector) (o : Option (List Sector)) → IfSome o (λ a. length a ≡ m) → length row ≡ m → IfSome o (λ a. length row ≡ length a)
same_length m row None fits is = tt
same_length m row (Some a) fits is = is ∙ sym fits

-- a leg that a node reads from is there
pub working_there : (core : Core) (n l : ℕ) → LegsFit core → works (core.view n) l ≡ true → l < (sizes core).legs
working_there core n l fit reads = ⊎_elim
    (λ lt. lt)
    (λ ge.
    let spare = (fit.views n).roles l ge in
    let idle : works (core.view n) l ≡ false = ap (λ r. is_working r && not ((core.view n).lost l)) spare in
    absurd (true≢false (sym reads ∙ idle)))
    (cases_lt l (sizes core).legs)

-- How a comparison ends.

pub all_read : (core : Core) (n : ℕ) (before now : LegsSeen) (kept : Kept) (answer : Comparison) → least_member core ≡ Some n → IsBelow core n 8 before now kept → answer ≡ told kept.place → Compares core before now answer
all_read core n before now kept answer least is says =
    AllRead n is.rows least is.legs is.gave (says ∙ ap told is.is_kept.place)

pub unread : (core : Core) (n l : ℕ) (before mid now : LegsSeen) (kept : Kept) → least_member core ≡ Some n → works (core.view n) l ≡ true → l < 8 → IsBelow core n l before mid kept → Failing (sizes core) l mid now → Compares core before now (Unread l)
unread core n l before mid now kept least reads lt is fails =
    ReadFailed n l is.rows mid least reads lt is.legs is.gave fails refl

-- the place is a sector of the room
pub place_below : (m bound : ℕ) (rows : List (List Sector)) (kept : Kept) → IsKeptOf m rows kept → m ≤ bound → IfSome kept.place (λ s. s < bound)
place_below m bound rows kept is le = below_of kept.place is.place
  where
    below_of : (o : Option ℕ) → o ≡ first_where_two_differ m rows → IfSome o (λ s. s < bound)
    below_of None e = tt
    below_of (Some s) e = let f = first_such_some _ 0 m s (sym e) in omega (arith, f.below)

-- What the legs hold.

pub same_still : (start : LegsSeen) → HoldSame start start
same_still start = record { contents = refl; sizes = refl }

pub then_same : (a b c : LegsSeen) → HoldSame a b → HoldSame b c → HoldSame a c
then_same a b c h k = record { contents = k.contents ∙ h.contents; sizes = k.sizes ∙ h.sizes }

received_same : (l at : ℕ) (r : Result Sector Failed) (before now : LegsSeen) → Received false l at r before now → HoldSame before now
received_same l at r before now is = record { contents = is.same; sizes = is.sizes }

gave_same : (g : Sizes) (l : ℕ) (start : LegsSeen) (vs : List Sector) (end : LegsSeen) → Gave g l start vs end → HoldSame start end
gave_same g l start [] end is = subst (HoldSame start) (sym is) (same_still start)
gave_same g l start (v ∷ vs) end is = then_same start is.0 end (gave_same g l start vs is.0 is.1) (received_same l _ _ is.0 end is.2)

pub gave_all_same : (g : Sizes) (l : ℕ) (start : LegsSeen) (sectors : List Sector) (end : LegsSeen) → GaveAll g l start sectors end → HoldSame start end
gave_all_same g l start sectors end is = gave_same g l start (reverse sectors) end is.gave

pub failing_same : (g : Sizes) (l : ℕ) (start end : LegsSeen) → Failing g l start end → HoldSame start end
failing_same g l start end is = then_same start is.mid end (gave_same g l start (reverse is.sectors) is.mid is.gave) (received_same l _ _ is.mid end is.failed)

all_gave_same : (g : Sizes) (start : LegsSeen) (rows : List Row) (end : LegsSeen) → AllGave g start rows end → HoldSame start end
all_gave_same g start [] end is = subst (HoldSame start) (sym is) (same_still start)
all_gave_same g start (row ∷ rows) end is = then_same start is.0 end (all_gave_same g start rows is.0 is.1) (gave_all_same g row.leg is.0 row.sectors end is.2)

pub below_same : (core : Core) (n l : ℕ) (before now : LegsSeen) (kept : Kept) → IsBelow core n l before now kept → HoldSame before now
below_same core n l before now kept is = all_gave_same (sizes core) before is.rows now is.gave

pub below_then : (core : Core) (n l : ℕ) (before mid now : LegsSeen) (kept : Kept) → IsBelow core n l before mid kept → HoldSame mid now → HoldSame before now
below_then core n l before mid now kept is after = then_same before mid now (below_same core n l before mid kept is) after

-- What legs give that tell what they hold.

gave_told : (g : Sizes) (l : ℕ) (legs : machine.Legs) (start : LegsSeen) (vs : List Sector) (end : LegsSeen) → Gave g l start vs end → told_by start ≡ legs → legs.told l ≡ true → vs ≡ reverse (map (λ s. legs.content l (data_offset g + s)) (range_with_len 0 (length vs)))
gave_told g l legs start [] end is same tells = refl
gave_told g l legs start (v ∷ vs) end is same tells =
    let content : ℕ → Sector = λ s. legs.content l (data_offset g + s) in
    let rest = gave_told g l legs start vs is.0 is.1 same tells in
    let mid : told_by is.0 ≡ legs = (gave_same g l start vs is.0 is.1).contents ∙ same in
    let here : v ≡ (told_by is.0).content l (data_offset g + length vs) = is.2.value (ap (λ (x : machine.Legs). x.told l) mid ∙ tells) in
    let value : v ≡ content (length vs) = here ∙ ap (λ (x : machine.Legs). x.content l (data_offset g + length vs)) mid in
    let one : suc (length vs) ≡ length vs + 1 = omega arith in
    let more : map content (range_with_len 0 (suc (length vs))) ≡ map content (range_with_len 0 (length vs)) ++ content (length vs) ∷ [] =
    ap (λ k. map content (range_with_len 0 k)) one ∙ map-range_with_len_more content 0 (length vs) (length vs) (omega arith) in
    ap (λ x. x ∷ vs) value ∙ ap (λ xs. content (length vs) ∷ xs) rest
    ∙ sym (ap reverse more ∙ reverse-append (map content (range_with_len 0 (length vs))) (content (length vs) ∷ []))

gave_all_told : (g : Sizes) (l : ℕ) (legs : machine.Legs) (start : LegsSeen) (sectors : List Sector) (end : LegsSeen) → GaveAll g l start sectors end → told_by start ≡ legs → legs.told l ≡ true → sectors ≡ data_of g legs l
gave_all_told g l legs start sectors end is same tells =
    let content : ℕ → Sector = λ s. legs.content l (data_offset g + s) in
    let back = gave_told g l legs start (reverse sectors) end is.gave same tells in
    let count : length (reverse sectors) ≡ g.room = length-reverse sectors ∙ is.all in
    sym (reverse-reverse sectors) ∙ ap reverse back ∙ reverse-reverse (map content (range_with_len 0 (length (reverse sectors))))
    ∙ ap (λ k. map content (range_with_len 0 k)) count

-- all legs of a list pass
abbrev AllTell : machine.Legs → List ℕ → Type 0
AllTell legs [] = Unit {0}
AllTell legs (l ∷ ls) = (legs.told l ≡ true) × AllTell legs ls

rows_told : (g : Sizes) (legs : machine.Legs) (start : LegsSeen) (rows : List Row) (end : LegsSeen) → AllGave g start rows end → told_by start ≡ legs → AllTell legs (legs_in rows) → sectors_in rows ≡ data_of_all g legs (legs_in rows)
rows_told g legs start [] end is same tells = refl
rows_told g legs start (row ∷ rows) end is same tells =
    let rest = rows_told g legs start rows is.0 is.1 same tells.1 in
    let mid : told_by is.0 ≡ legs = (all_gave_same g start rows is.0 is.1).contents ∙ same in
    let here = gave_all_told g row.leg legs is.0 row.sectors end is.2 mid tells.0 in
    ap (λ x. x ∷ sectors_in rows) here ∙ ap (λ xs. data_of g legs row.leg ∷ xs) rest

tell-append : (legs : machine.Legs) (xs : List ℕ) (l : ℕ) → AllTell legs xs → legs.told l ≡ true → AllTell legs (xs ++ l ∷ [])
tell-append legs [] l all here = (here, tt)
tell-append legs (x ∷ xs) l all here = (all.0, tell-append legs xs l all.1 here)

tell-reverse : (legs : machine.Legs) (xs : List ℕ) → AllTell legs xs → AllTell legs (reverse xs)
tell-reverse legs [] all = tt
tell-reverse legs (x ∷ xs) all = subst (AllTell legs) (sym (reverse_onto xs x [])) (tell-append legs (reverse xs) x (tell-reverse legs xs all.1) all.0)

working_tell : (test : ℕ → Bool) (legs : machine.Legs) (n : ℕ) → ((l : ℕ) → test l ≡ true → legs.told l ≡ true) → AllTell legs (those_below test n)
unfolding those_below
working_tell test legs zero all = tt
working_tell test legs (suc n) all =
    let rest = working_tell test legs n all in
    elim (test n) as (λ b. test n ≡ b → AllTell legs (if b then those_below test n ++ n ∷ [] else those_below test n)) [
      | true ↦ λ t. tell-append legs (those_below test n) n rest (all n t)
      | false ↦ λ f. rest
    ] refl

pub all_read_told : (core : Core) (n : ℕ) (before now : LegsSeen) (kept : Kept) (answer : Comparison) → least_member core ≡ Some n → IsBelow core n 8 before now kept → answer ≡ told kept.place → TellsOfContents core (told_by before) answer
all_read_told core n before now kept answer least is says m least_m tells read =
    let same : n ≡ m = cc in
    let all : AllTell (told_by before) (legs_in is.rows) = subst (AllTell (told_by before)) (sym is.legs) (tell-reverse (told_by before) (working_below core n 8) (working_tell (works (core.view n)) (told_by before) 8 (λ l t. tells l (subst (λ k. works (core.view k) l ≡ true) same t)))) in
    let rows = rows_told (sizes core) (told_by before) before is.rows now is.gave refl all in
    says ∙ ap told is.is_kept.place ∙ ap (λ rs. told (first_where_two_differ (sizes core).room rs)) (rows ∙ ap (data_of_all (sizes core) (told_by before)) is.legs) ∙ ap (difference core (told_by before)) same
