use Rattle.std.proofs.Common.{◌≡◌, List, get_or, length, None, Some, sym, ◌∙◌, ap, arith}
use Rattle.std.proofs.lemmas.List.{get_or_default}
use Rattle.std.specs.List.{slice_get}
use Rattle.script_text.specs.declared.script.Line.{Line}
use Rattle.script_text.specs.Places.{line_at}
use Rattle.script_text.specs.Script.{line_of}
use Rattle.script_text.proofs.PlacesLaws.{lines_length, some_line}
use Rattle.script_text.proofs.script.ScriptLines.line.Goals as goal

pub index-requires : goal.index-requires
index-requires c =
    let size = lines_length (line_at line_of c.self.inside.bytes.now) c.self.inside.places.items c.self.invariant in
    let seen = ap (λ (lines : List Line). length lines) c.self.view_is in
    omega (arith, size, seen, c.requires)

pub unreachable-requires : goal.unreachable-requires
unreachable-requires c =
    let f = line_at line_of c.self.inside.bytes.now in
    let places = c.self.inside.places.items in
    let size = lines_length f places c.self.invariant in
    let seen = ap (λ (lines : List Line). length lines) c.self.view_is in
    let line = some_line f places c.args.i c.self.invariant (omega (arith, size, seen, c.requires)) in
    let here : c.index.result.now ≡ get_or places c.args.i 0 = c.index.ensures ∙ get_or_default places c.args.i c.index.result.now 0 (omega (arith, size, seen, c.requires)) in
    let both : None ≡ Some line.0 = sym c.in-None.is ∙ (c.line_at.ensures ∙ (ap f here ∙ line.1)) in
    cc

pub returns : goal.returns
returns c =
    let f = line_at line_of c.self.inside.bytes.now in
    let places = c.self.inside.places.items in
    let size = lines_length f places c.self.invariant in
    let seen = ap (λ (lines : List Line). length lines) c.self.view_is in
    let line = some_line f places c.args.i c.self.invariant (omega (arith, size, seen, c.requires)) in
    let here : c.index.result.now ≡ get_or places c.args.i 0 = c.index.ensures ∙ get_or_default places c.args.i c.index.result.now 0 (omega (arith, size, seen, c.requires)) in
    ap (λ (lines : List Line). slice_get lines c.args.i) (sym c.self.view_is) ∙ (line.2 ∙ (sym (ap f here ∙ line.1) ∙ (sym c.line_at.ensures ∙ c.in-Some.is)))
