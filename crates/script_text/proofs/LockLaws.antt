-- What each lock script in the grammar has.
use Rattle.std.proofs.Common.{◌≡◌, ℕ, ◌<◌, nat_lt, true, false, ◌&&◌, cond, List, [], ◌∷◌, Some, Ok, Err, refl, subst, arith}
use Rattle.std.proofs.lemmas.Bool.Decides.{nat_tests}
use Rattle.std.specs.Prelude.{codes, ok_or}
use Rattle.std.specs.List.{AllByRecursion}
use Rattle.std.specs.Str.{bytes_eq}
use Rattle.dlm_modes.specs.declared.mode.Mode.{Mode}
use Rattle.mdc_types.specs.Resources.{IsResource, word_of}
use Rattle.mdc_types.specs.declared.resources.Res.{Res}
use Rattle.script_text.specs.declared.locks.LockLine.{LockLine}
use Rattle.script_text.specs.declared.faults.FaultKind.TheVariants as kinds
use Rattle.script_text.specs.Lines.{lines_of, script_limit, one, two, three, first, second, third}
use Rattle.script_text.specs.Arguments.{byte_word, all_resources, res_among, res_of, res_word, mode_word, fits_res, fits_mode, fitting, one_res}
use Rattle.script_text.specs.Locks.{node_in, node_word, node_res_mode, node_res, one_node, ask_line, now_line, convert_line, up_line, grant_line, release_line, die_line, calls_line, lock_line_of, IsNodeRes, IsLockLine, locks_judged}
use Rattle.script_text.proofs.GrammarLaws.{bind_ok, ok_or_some, ok_same, chosen, body_are}

abbrev AreResources : List Res → Type 0
AreResources rs = AllByRecursion IsResource rs

are_resources : AreResources all_resources
are_resources = search arith

res_among_is : (rs : List Res) (word : List ℕ) (res : Res) → AreResources rs → res_among rs word ≡ Some res → IsResource res
res_among_is [] word res all is = cc
res_among_is (r ∷ rs) word res all is =
    elim (bytes_eq word (word_of r)) as (λ b. cond b (Some r) (res_among rs word) ≡ Some res → IsResource res) [
      | true ↦ λ is. let same : r ≡ res = cc in subst IsResource same all.0
      | false ↦ λ is. res_among_is rs word res all.1 is
    ] is

pub res_is : (word : List ℕ) (res : Res) → res_word word ≡ Ok res → IsResource res
res_is word res is = res_among_is all_resources word res are_resources (ok_or_some (res_of word) kinds.Word res is)

node_in_is : (n node : ℕ) → node_in n ≡ Ok node → node < 16
node_in_is n node is =
    elim (nat_lt n 16) as (λ b. nat_lt n 16 ≡ b → cond b (Ok n) (Err kinds.Range) ≡ Ok node → node < 16) [
      | true ↦ λ t is. subst (λ m. m < 16) (ok_same is) (grind (arith, nat_tests))
      | false ↦ λ t is. cc
    ] refl is

node_is : (word : List ℕ) (node : ℕ) → node_word word ≡ Ok node → node < 16
node_is word node is = let n = bind_ok (byte_word word) _ node is in node_in_is n.0 node n.2

abbrev IsTriple : ℕ × Res × Mode → Type 0
IsTriple x = IsNodeRes x.0 x.1

abbrev IsPair : ℕ × Res → Type 0
IsPair x = IsNodeRes x.0 x.1

node_res_mode_is : (args : List (List ℕ)) (x : ℕ × Res × Mode) → node_res_mode args ≡ Ok x → IsTriple x
node_res_mode_is args x is =
    let fits = bind_ok (fitting (fits_res (second args) && fits_mode (third args))) _ x is in
    let words = bind_ok (ok_or (three args) kinds.Count) _ x fits.2 in
    let node = bind_ok (node_word words.0.0) _ x words.2 in
    let res = bind_ok (res_word words.0.1) _ x node.2 in
    let mode = bind_ok (mode_word words.0.2) _ x res.2 in
    subst IsTriple (ok_same mode.2) (node_is words.0.0 node.0 node.1, res_is words.0.1 res.0 res.1)

node_res_is : (args : List (List ℕ)) (x : ℕ × Res) → node_res args ≡ Ok x → IsPair x
node_res_is args x is =
    let fits = bind_ok (fitting (fits_res (second args))) _ x is in
    let words = bind_ok (ok_or (two args) kinds.Count) _ x fits.2 in
    let node = bind_ok (node_word words.0.0) _ x words.2 in
    let res = bind_ok (res_word words.0.1) _ x node.2 in
    subst IsPair (ok_same res.2) (node_is words.0.0 node.0 node.1, res_is words.0.1 res.0 res.1)

pub one_res_is : (args : List (List ℕ)) (res : Res) → one_res args ≡ Ok res → IsResource res
one_res_is args res is =
    let fits = bind_ok (fitting (fits_res (first args))) _ res is in
    let word = bind_ok (ok_or (one args) kinds.Count) _ res fits.2 in
    res_is word.0 res word.2

one_node_is : (args : List (List ℕ)) (node : ℕ) → one_node args ≡ Ok node → node < 16
one_node_is args node is = let word = bind_ok (ok_or (one args) kinds.Count) _ node is in node_is word.0 node word.2

ask_is : (args : List (List ℕ)) (line : LockLine) → ask_line args ≡ Ok line → IsLockLine line
ask_is args line is = let x = bind_ok (node_res_mode args) _ line is in subst IsLockLine (ok_same x.2) (node_res_mode_is args x.0 x.1)

now_is : (args : List (List ℕ)) (line : LockLine) → now_line args ≡ Ok line → IsLockLine line
now_is args line is = let x = bind_ok (node_res_mode args) _ line is in subst IsLockLine (ok_same x.2) (node_res_mode_is args x.0 x.1)

convert_is : (args : List (List ℕ)) (line : LockLine) → convert_line args ≡ Ok line → IsLockLine line
convert_is args line is = let x = bind_ok (node_res_mode args) _ line is in subst IsLockLine (ok_same x.2) (node_res_mode_is args x.0 x.1)

up_is : (args : List (List ℕ)) (line : LockLine) → up_line args ≡ Ok line → IsLockLine line
up_is args line is = let x = bind_ok (node_res_mode args) _ line is in subst IsLockLine (ok_same x.2) (node_res_mode_is args x.0 x.1)

grant_is : (args : List (List ℕ)) (line : LockLine) → grant_line args ≡ Ok line → IsLockLine line
grant_is args line is = let x = bind_ok (one_res args) _ line is in subst IsLockLine (ok_same x.2) (one_res_is args x.0 x.1)

release_is : (args : List (List ℕ)) (line : LockLine) → release_line args ≡ Ok line → IsLockLine line
release_is args line is = let x = bind_ok (node_res args) _ line is in subst IsLockLine (ok_same x.2) (node_res_is args x.0 x.1)

die_is : (args : List (List ℕ)) (line : LockLine) → die_line args ≡ Ok line → IsLockLine line
die_is args line is = let x = bind_ok (one_node args) _ line is in subst IsLockLine (ok_same x.2) (one_node_is args x.0 x.1)

calls_is : (args : List (List ℕ)) (line : LockLine) → calls_line args ≡ Ok line → IsLockLine line
calls_is args line is = let x = bind_ok (node_res args) _ line is in subst IsLockLine (ok_same x.2) (node_res_is args x.0 x.1)

lock_line_is : (word : List ℕ) (args : List (List ℕ)) (line : LockLine) → lock_line_of word args ≡ Ok line → IsLockLine line
lock_line_is word args line is =
    chosen (bytes_eq word (codes "ask")) _ _ (Ok line) _ is (ask_is args line)
    (λ is. chosen (bytes_eq word (codes "now")) _ _ (Ok line) _ is (now_is args line)
    (λ is. chosen (bytes_eq word (codes "convert")) _ _ (Ok line) _ is (convert_is args line)
    (λ is. chosen (bytes_eq word (codes "up")) _ _ (Ok line) _ is (up_is args line)
    (λ is. chosen (bytes_eq word (codes "grant")) _ _ (Ok line) _ is (grant_is args line)
    (λ is. chosen (bytes_eq word (codes "release")) _ _ (Ok line) _ is (release_is args line)
    (λ is. chosen (bytes_eq word (codes "die")) _ _ (Ok line) _ is (die_is args line)
    (λ is. chosen (bytes_eq word (codes "calls")) _ _ (Ok line) _ is (calls_is args line)
    (λ is. cc))))))))

-- each line of a lock script is of a node below 16 and of a resource
pub lock_script_is : (bytes : List ℕ) (lines : List LockLine) → locks_judged bytes ≡ Ok lines → AllByRecursion IsLockLine lines
lock_script_is bytes lines is = body_are lock_line_of IsLockLine lock_line_is 1 script_limit (lines_of bytes) lines is
