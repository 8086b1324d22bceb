-- What each wire script in the grammar has, and what its reader finds.
use Rattle.std.proofs.Common.{◌≡◌, ℕ, ◌+◌, ◌-◌, ◌≤◌, nat_le, true, false, ◌&&◌, cond, List, [], ◌∷◌, length, drop, Result, Ok, Err, refl, ap, subst, ◌∙◌, arith}
use Rattle.std.proofs.lemmas.Bool.Decides.{nat_tests}
use Rattle.std.specs.Prelude.{codes, ok_or}
use Rattle.std.specs.List.{AllByRecursion}
use Rattle.std.specs.Str.{bytes_eq}
use Rattle.dlm_modes.specs.declared.mode.Mode.{Mode}
use Rattle.mdc_types.specs.Resources.{IsResource}
use Rattle.mdc_types.specs.declared.resources.Res.{Res}
use Rattle.script_text.specs.declared.wire.WireLine.{WireLine}
use Rattle.script_text.specs.declared.faults.FaultKind.{FaultKind}
use Rattle.script_text.specs.declared.faults.FaultKind.TheVariants as kinds
use Rattle.script_text.specs.declared.faults.ScriptFault.{ScriptFault}
use Rattle.script_text.specs.Judging.{◌>>=◌, at_line}
use Rattle.script_text.specs.Lines.{lines_of, script_limit, two, three, second, third}
use Rattle.script_text.specs.Arguments.{byte_word, res_word, mode_word, fits_res, fits_mode, fitting, one_byte, one_number, two_bytes, one_res}
use Rattle.script_text.specs.Reading.{HasLine, body_at}
use Rattle.script_text.specs.Script.{said_by, header_then, body_of}
use Rattle.script_text.specs.Wire.{WireValue, nodes_in, nodes_of, byte_res_mode, byte_res, ask_line, convert_line, release_line, deliver_line, serve_line, die_line, holds_line, wire_line_of, IsWireLine, with_nodes, wire_in, wire_judged}
use Rattle.script_text.proofs.GrammarLaws.{bind_ok, ok_same, chosen, body_are, at_line_ok}
use Rattle.script_text.proofs.LockLaws.{res_is, one_res_is}
use Rattle.script_text.proofs.ReadingLaws.{room_after}

-- The lines.

abbrev IsTriple : ℕ × Res × Mode → Type 0
IsTriple x = IsResource x.1

abbrev IsPair : ℕ × Res → Type 0
IsPair x = IsResource x.1

byte_res_mode_is : (args : List (List ℕ)) (x : ℕ × Res × Mode) → byte_res_mode args ≡ Ok x → IsTriple x
byte_res_mode_is args x is =
    let fits = bind_ok (fitting (fits_res (second args) && fits_mode (third args))) _ x is in
    let words = bind_ok (ok_or (three args) kinds.Count) _ x fits.2 in
    let node = bind_ok (byte_word words.0.0) _ x words.2 in
    let res = bind_ok (res_word words.0.1) _ x node.2 in
    let mode = bind_ok (mode_word words.0.2) _ x res.2 in
    subst IsTriple (ok_same mode.2) (res_is words.0.1 res.0 res.1)

byte_res_is : (args : List (List ℕ)) (x : ℕ × Res) → byte_res args ≡ Ok x → IsPair x
byte_res_is args x is =
    let fits = bind_ok (fitting (fits_res (second args))) _ x is in
    let words = bind_ok (ok_or (two args) kinds.Count) _ x fits.2 in
    let node = bind_ok (byte_word words.0.0) _ x words.2 in
    let res = bind_ok (res_word words.0.1) _ x node.2 in
    subst IsPair (ok_same res.2) (res_is words.0.1 res.0 res.1)

ask_is : (args : List (List ℕ)) (line : WireLine) → ask_line args ≡ Ok line → IsWireLine line
ask_is args line is = let x = bind_ok (byte_res_mode args) _ line is in subst IsWireLine (ok_same x.2) (byte_res_mode_is args x.0 x.1)

convert_is : (args : List (List ℕ)) (line : WireLine) → convert_line args ≡ Ok line → IsWireLine line
convert_is args line is = let x = bind_ok (byte_res_mode args) _ line is in subst IsWireLine (ok_same x.2) (byte_res_mode_is args x.0 x.1)

release_is : (args : List (List ℕ)) (line : WireLine) → release_line args ≡ Ok line → IsWireLine line
release_is args line is = let x = bind_ok (byte_res args) _ line is in subst IsWireLine (ok_same x.2) (byte_res_is args x.0 x.1)

deliver_is : (args : List (List ℕ)) (line : WireLine) → deliver_line args ≡ Ok line → IsWireLine line
deliver_is args line is = let x = bind_ok (two_bytes args) _ line is in subst IsWireLine (ok_same x.2) tt

serve_is : (args : List (List ℕ)) (line : WireLine) → serve_line args ≡ Ok line → IsWireLine line
serve_is args line is = let x = bind_ok (one_res args) _ line is in subst IsWireLine (ok_same x.2) (one_res_is args x.0 x.1)

die_is : (args : List (List ℕ)) (line : WireLine) → die_line args ≡ Ok line → IsWireLine line
die_is args line is = let x = bind_ok (one_byte args) _ line is in subst IsWireLine (ok_same x.2) tt

holds_is : (args : List (List ℕ)) (line : WireLine) → holds_line args ≡ Ok line → IsWireLine line
holds_is args line is = let x = bind_ok (byte_res args) _ line is in subst IsWireLine (ok_same x.2) (byte_res_is args x.0 x.1)

wire_line_is : (word : List ℕ) (args : List (List ℕ)) (line : WireLine) → wire_line_of word args ≡ Ok line → IsWireLine line
wire_line_is word args line is =
    chosen (bytes_eq word (codes "ask")) _ _ (Ok line) _ is (ask_is args line)
    (λ is. chosen (bytes_eq word (codes "convert")) _ _ (Ok line) _ is (convert_is args line)
    (λ is. chosen (bytes_eq word (codes "release")) _ _ (Ok line) _ is (release_is args line)
    (λ is. chosen (bytes_eq word (codes "deliver")) _ _ (Ok line) _ is (deliver_is args line)
    (λ is. chosen (bytes_eq word (codes "serve")) _ _ (Ok line) _ is (serve_is args line)
    (λ is. chosen (bytes_eq word (codes "die")) _ _ (Ok line) _ is (die_is args line)
    (λ is. chosen (bytes_eq word (codes "holds")) _ _ (Ok line) _ is (holds_is args line)
    (λ is. cc)))))))

-- The header.

pub record IsCount (n : ℕ) : Type 0 where
  pub some_node : 1 ≤ n
  pub nodes : n ≤ 16

nodes_in_is : (n m : ℕ) → nodes_in n ≡ Ok m → IsCount m
nodes_in_is n m is =
    elim (nat_le 1 n) as (λ a. nat_le 1 n ≡ a → cond (a && nat_le n 16) (Ok n) (Err kinds.Range) ≡ Ok m → IsCount m) [
      | false ↦ λ t is. cc
      | true ↦ λ t. elim (nat_le n 16) as (λ b. nat_le n 16 ≡ b → cond b (Ok n) (Err kinds.Range) ≡ Ok m → IsCount m) [
        | false ↦ λ u is. cc
        | true ↦ λ u is. subst IsCount (ok_same is) (record { some_node = grind (arith, nat_tests); nodes = grind (arith, nat_tests) })
      ] refl
    ] refl is

nodes_is : (word : List ℕ) (args : List (List ℕ)) (n : ℕ) → nodes_of word args ≡ Ok n → IsCount n
nodes_is word args n is =
    chosen (bytes_eq word (codes "nodes")) _ _ (Ok n) _ is
    (λ is. let k = bind_ok (one_number args) nodes_in n is in nodes_in_is k.0 n k.2)
    (λ is. cc)

-- The whole.

pub record IsWire (v : WireValue) : Type 0 where
  pub count : IsCount v.nodes
  pub lines : AllByRecursion IsWireLine v.lines

with_nodes_is : (nodes n room : ℕ) (lines : List (List ℕ)) (v : WireValue) → IsCount nodes → with_nodes nodes (body_of wire_line_of n room lines) ≡ Ok v → IsWire v
with_nodes_is nodes n room lines v count is =
    let ls = bind_ok (body_of wire_line_of n room lines) _ v is in
    subst IsWire (ok_same ls.2) (record { count = count; lines = body_are wire_line_of IsWireLine wire_line_is n room lines ls.0 ls.1 })

header_is : (n : ℕ) (said : Result (List (List ℕ)) FaultKind) (later : Result WireValue ScriptFault) (after : ℕ → Result WireValue ScriptFault) (v : WireValue)
    → (later ≡ Ok v → IsWire v) → ((nodes : ℕ) → IsCount nodes → after nodes ≡ Ok v → IsWire v) → header_then nodes_of n said later after ≡ Ok v → IsWire v
header_is n (Err kind) later after v f g is = cc
header_is n (Ok []) later after v f g is = f is
header_is n (Ok (word ∷ args)) later after v f g is =
    let nodes = bind_ok (at_line n (nodes_of word args)) after v is in
    g nodes.0 (nodes_is word args nodes.0 (at_line_ok n (nodes_of word args) nodes.0 nodes.1)) nodes.2

wire_in_is : (n room : ℕ) (lines : List (List ℕ)) (v : WireValue) → wire_in n room lines ≡ Ok v → IsWire v
wire_in_is n room [] v is = cc
wire_in_is n room (line ∷ lines) v is =
    header_is n (said_by room line) (wire_in (n + 1) (room - length line) lines) (λ nodes. with_nodes nodes (body_of wire_line_of (n + 1) (room - length line) lines)) v
    (wire_in_is (n + 1) (room - length line) lines v)
    (λ nodes count e. with_nodes_is nodes (n + 1) (room - length line) lines v count e) is

-- each wire script is of 1 to 16 nodes, and its lines are of resources
pub wire_is : (bytes : List ℕ) (v : WireValue) → wire_judged bytes ≡ Ok v → IsWire v
wire_is bytes v is = wire_in_is 1 script_limit (lines_of bytes) v is

-- Line n stands at the place.
module _ (bytes : List ℕ) (at n : ℕ) where
  wire_first : (words : List (List ℕ)) (next : ℕ) → HasLine bytes at words next
      → wire_in n (script_limit - at) (lines_of (drop at bytes))
      ≡ header_then nodes_of n (Ok words) (wire_in (n + 1) (script_limit - next) (lines_of (drop next bytes))) (λ nodes. with_nodes nodes (body_at wire_line_of bytes next (n + 1)))
  wire_first words next h =
      ap (wire_in n (script_limit - at)) h.first
      ∙ (ap (λ said. header_then nodes_of n said (wire_in (n + 1) (script_limit - at - length h.line) (lines_of (drop next bytes)))
      (λ nodes. with_nodes nodes (body_of wire_line_of (n + 1) (script_limit - at - length h.line) (lines_of (drop next bytes))))) h.said
      ∙ ap (λ room. header_then nodes_of n (Ok words) (wire_in (n + 1) room (lines_of (drop next bytes))) (λ nodes. with_nodes nodes (body_of wire_line_of (n + 1) room (lines_of (drop next bytes)))))
      (room_after bytes at n words next h))

  -- the header stands there
  pub nodes_found : (word : List ℕ) (args : List (List ℕ)) (next nodes : ℕ) → HasLine bytes at (word ∷ args) next
      → (whole : Result WireValue ScriptFault) → whole ≡ wire_in n (script_limit - at) (lines_of (drop at bytes)) → at_line n (nodes_of word args) ≡ Ok nodes
      → whole ≡ with_nodes nodes (body_at wire_line_of bytes next (n + 1))
  nodes_found word args next nodes h whole is there =
      is ∙ (wire_first (word ∷ args) next h ∙ ap (λ r. r >>= λ k. with_nodes k (body_at wire_line_of bytes next (n + 1))) there)
