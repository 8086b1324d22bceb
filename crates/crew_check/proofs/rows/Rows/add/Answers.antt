use Rattle.std.proofs.Common.{◌≡◌, Some, None, Vec, Global, refl, ap, sym, ◌∙◌}
use Rattle.std.specs.Option.{option_map}
use Rattle.mdc_types.specs.declared.numbers.Sector.{Sector}
use Rattle.image_faults.specs.Compare.{first_difference}
use Rattle.crew_check.specs.Rows.{Kept, lesser}
use Rattle.crew_check.proofs.RowLaws.{first_row, next_row}
use Rattle.crew_check.proofs.rows.Rows.add.Goals as goal

pub returns-in-None-clause-ok : goal.returns-in-None-clause-ok
returns-in-None-clause-ok g c = λ n rows kept long.
    let none : c.args.self.now.first ≡ None = sym (ap (λ (k : Kept). k.first) c.self.view_is) ∙ ap (option_map (λ (v : Vec Sector Global). v.items)) c.in-None.is in
    let place : c.self.inside.place ≡ c.args.self.now.place = ap (λ (k : Kept). k.place) c.self.view_is in
    first_row n rows c.args.self.now _ c.args.row.items none refl place kept long

pub returns-in_ok-found-in-Some-clause-ok : goal.returns-in_ok-found-in-Some-clause-ok
returns-in_ok-found-in-Some-clause-ok g c = λ n rows kept long.
    let old = c.args.self.now in
    let first = c.in-Some.first.items in
    let row = c.args.row.items in
    let shown = ap (option_map (λ (v : Vec Sector Global). v.items)) c.in-Some.is in
    let was : old.first ≡ Some first = sym (ap (λ (k : Kept). k.first) c.self.view_is) ∙ shown in
    let found : c.in_ok-found-in-Some.found ≡ first_difference first row =
    c.in_ok-found-in-Some.ensures ∙ ap (λ x. first_difference x c.as_slice-in-Some.result.now) c.as_slice.ensures.value ∙ ap (first_difference first) c.as_slice-in-Some.ensures.value in
    let place : c.lesser-self-inside.result ≡ lesser old.place (first_difference first row) =
    c.lesser-self-inside.ensures ∙ ap (λ p. lesser p c.in_ok-found-in-Some.found) (ap (λ (k : Kept). k.place) c.self.view_is) ∙ ap (lesser old.place) found in
    next_row n rows old _ first row was shown place kept long
