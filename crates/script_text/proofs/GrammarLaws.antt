-- What each script in the grammar has.
use Rattle.std.proofs.Common.{◌≡◌, ℕ, ◌+◌, ◌-◌, ◌<◌, ◌≤◌, ◌==◌, nat_le, nat_lt, Bool, true, false, ◌&&◌, ◌||◌, ◌⊎◌, inl, inr, cond, List, [], ◌∷◌, ◌++◌, length, Option, Some, None, Result, Ok, Err, refl, ap, subst, sym, ◌∙◌, arith}
use Rattle.std.proofs.lemmas.Bool.{false≢true}
use Rattle.std.proofs.lemmas.Bool.Decides.{nat_tests}
use Rattle.std.proofs.lemmas.Nat.Bits.{bit_at-zero}
use Rattle.std.specs.Prelude.{is_ok, ok_or, codes}
use Rattle.std.specs.List.{AllByRecursion}
use Rattle.std.specs.Str.{bytes_eq}
use Rattle.mdc_types.specs.Bits.{has_bit, with_bit}
use Rattle.mdc_types.specs.Geometry.{Sizes}
use Rattle.mdc_types.specs.declared.geometry.GeomError.{GeomError}
use Rattle.mdc_types.specs.declared.geometry.GeomError.TheVariants.{Legs}
use Rattle.mdc_types.proofs.BitsLaws.{has_bit-with_bit}
use Rattle.script_text.specs.declared.script.Start.{Start}
use Rattle.script_text.specs.declared.script.FaultLine.{FaultLine}
use Rattle.script_text.specs.declared.header.SetupLine.{SetupLine}
use Rattle.script_text.specs.declared.header.SetupLine.TheVariants.{Room, Spare, Fault}
use Rattle.script_text.specs.declared.faults.FaultKind.{FaultKind}
use Rattle.script_text.specs.declared.faults.FaultKind.TheVariants as kinds
use Rattle.script_text.specs.declared.faults.ScriptFault.{ScriptFault}
use Rattle.script_text.specs.declared.script.Line.{Line}
use Rattle.script_text.specs.Steps.{guarded}
use Rattle.script_text.specs.Judging.{◌>>=◌, at_line}
use Rattle.script_text.specs.Lines.{lines_of, script_limit, three, four, third}
use Rattle.script_text.specs.Arguments.{number_word, one_number, fitting, alone}
use Rattle.script_text.specs.Header.{Setup, start_sizes, most_nodes, is_start, new_start, start_with, start_line, start_of, is_setup, with_room, room_line, spare_line, left_of, fits_left, fault_line, setup_line, with_line}
use Rattle.script_text.specs.Script.{ScriptValue, line_of, said_by, line_then, body_of, with_lines, setup_then, setup_in, new_setup, header_then, script_in, judged}

pub bind_ok : {A B E : Type 0} (r : Result A E) (f : A → Result B E) (y : B) → (r >>= f) ≡ Ok y → (x : A) × (r ≡ Ok x) × (f x ≡ Ok y)
bind_ok (Err e) f y is = cc
bind_ok (Ok x) f y is = (x, refl, is)

guarded_some : {A : Type 0} (b : Bool) (x y : A) → guarded b x ≡ Some y → (b ≡ true) × (x ≡ y)
guarded_some true x y is = (refl, cc)
guarded_some false x y is = cc

pub ok_or_some : {A E : Type 0} (o : Option A) (e : E) (x : A) → ok_or o e ≡ Ok x → o ≡ Some x
ok_or_some None e x is = cc
ok_or_some (Some y) e x is = cc

-- what is found of a line without a fault
pub at_line_ok : {A : Type 0} (n : ℕ) (r : Result A FaultKind) (x : A) → at_line n r ≡ Ok x → r ≡ Ok x
at_line_ok n (Err kind) x is = cc
at_line_ok n (Ok y) x is = cc

abbrev pub ok_with : {A : Type 0} (E : Type 0) → A → Result A E
ok_with E x = Ok x

pub ok_same : {A E : Type 0} {x y : A} → ok_with E x ≡ ok_with E y → x ≡ y
ok_same is = cc

both : (a b : Bool) → (a && b) ≡ true → (a ≡ true) × (b ≡ true)
both true b is = (refl, is)
both false b is = absurd (false≢true is)

-- the first word that fits
pub chosen : {A E : Type 0} (b : Bool) (x y z : Result A E) (P : Type 0) → cond b x y ≡ z → (x ≡ z → P) → (y ≡ z → P) → P
chosen true x y z P is f g = f is
chosen false x y z P is f g = g is

-- The setup.

abbrev AreOfLegs : Start → List FaultLine → Type 0
AreOfLegs s faults = AllByRecursion (λ f. f.leg < s.legs) faults

pub record IsSetup (s : Setup) : Type 0 where
  pub array : is_ok (start_sizes s.start) ≡ true
  pub some_node : 1 ≤ s.start.nodes
  pub nodes : s.start.nodes ≤ most_nodes s.start.second
  pub leg_0 : has_bit s.start.spares 0 ≡ false
  pub spares : (l : ℕ) → has_bit s.start.spares l ≡ true → l < s.start.legs
  pub faults : AreOfLegs s.start s.faults

none_in_zero : (l : ℕ) → has_bit 0 l ≡ false
none_in_zero l = ap (λ b. b == 1) (bit_at-zero l)

new_is : (s : Start) → s.spares ≡ 0 → is_start s ≡ true → IsSetup (new_setup s)
new_is s none is =
    let nodes = both (nat_le 1 s.nodes && nat_le s.nodes (most_nodes s.second)) (is_ok (start_sizes s)) is in
    let few = both (nat_le 1 s.nodes) (nat_le s.nodes (most_nodes s.second)) nodes.0 in
    record {
      array = nodes.1;
      some_node = grind (arith, nat_tests, few.0);
      nodes = grind (arith, nat_tests, few.1);
      leg_0 = ap (λ set. has_bit set 0) none ∙ none_in_zero 0;
      spares = λ l has. absurd (false≢true (sym (ap (λ set. has_bit set l) none ∙ none_in_zero l) ∙ has));
      faults = tt;
    }

start_line_is : (warm second : Bool) (args : List (List ℕ)) (s : Start) → start_line warm second args ≡ Ok s → IsSetup (new_setup s)
start_line_is warm second args s is =
    let words = bind_ok (ok_or (four args) kinds.Count) _ s is in
    let legs = bind_ok (number_word words.0.0) _ s words.2 in
    let sectors = bind_ok (number_word words.0.1) _ s legs.2 in
    let chunk = bind_ok (number_word words.0.2) _ s sectors.2 in
    let nodes = bind_ok (number_word words.0.3) _ s chunk.2 in
    let start = ok_or_some (start_with warm second legs.0 sectors.0 chunk.0 nodes.0) kinds.Range s nodes.2 in
    let made = guarded_some (is_start (new_start warm second legs.0 sectors.0 chunk.0 nodes.0)) (new_start warm second legs.0 sectors.0 chunk.0 nodes.0) s start in
    subst (λ t. IsSetup (new_setup t)) made.1 (new_is (new_start warm second legs.0 sectors.0 chunk.0 nodes.0) refl made.0)

-- the array of a header
pub start_is : (word : List ℕ) (args : List (List ℕ)) (s : Start) → start_of word args ≡ Ok s → IsSetup (new_setup s)
start_is word args s is =
    chosen (bytes_eq word (codes "warm")) _ _ (Ok s) _ is (start_line_is true false args s)
    (λ is. chosen (bytes_eq word (codes "array")) _ _ (Ok s) _ is (start_line_is false false args s)
    (λ is. chosen (bytes_eq word (codes "warm2")) _ _ (Ok s) _ is (start_line_is true true args s)
    (λ is. chosen (bytes_eq word (codes "array2")) _ _ (Ok s) _ is (start_line_is false true args s)
    (λ is. cc))))

faults_push : (s : Start) (faults : List FaultLine) (f : FaultLine) → AreOfLegs s faults → f.leg < s.legs → AreOfLegs s (faults ++ f ∷ [])
faults_push s [] f are lt = (lt, tt)
faults_push s (g ∷ faults) f are lt = (are.0, faults_push s faults f are.1 lt)

room_is : (s : Setup) (args : List (List ℕ)) (line : SetupLine) → IsSetup s → room_line s.start args ≡ Ok line → IsSetup (with_line s line)
room_is s args line i is =
    let room = bind_ok (one_number args) _ line is in
    let found = ok_or_some (guarded (is_ok (start_sizes (with_room s.start room.0))) (Room room.0)) kinds.Range line room.2 in
    let made = guarded_some (is_ok (start_sizes (with_room s.start room.0))) (Room room.0) line found in
    subst (λ l. IsSetup (with_line s l)) {x = Room room.0} made.1
    (record { array = made.0; some_node = i.some_node; nodes = i.nodes; leg_0 = i.leg_0; spares = i.spares; faults = i.faults })

spare_bits : (set k j : ℕ) → has_bit (with_bit set k) j ≡ true → (j ≡ k) ⊎ (has_bit set j ≡ true)
spare_bits set k j has = grind (arith, nat_tests, has_bit-with_bit set k j)

spare_is : (s : Setup) (args : List (List ℕ)) (line : SetupLine) → IsSetup s → spare_line s.start args ≡ Ok line → IsSetup (with_line s line)
spare_is s args line i is =
    let leg = bind_ok (one_number args) _ line is in
    let l = leg.0 in
    let found = ok_or_some (guarded (nat_lt 0 l && nat_lt l s.start.legs) (Spare l)) kinds.Range line leg.2 in
    let made = guarded_some (nat_lt 0 l && nat_lt l s.start.legs) (Spare l) line found in
    let tests = both (nat_lt 0 l) (nat_lt l s.start.legs) made.0 in
    let some : 0 < l = grind (arith, nat_tests, tests.0) in
    let below : l < s.start.legs = grind (arith, nat_tests, tests.1) in
    subst (λ l. IsSetup (with_line s l)) {x = Spare l} made.1
    (record {
      array = i.array;
      some_node = i.some_node;
      nodes = i.nodes;
      leg_0 = grind (arith, nat_tests, has_bit-with_bit s.start.spares l 0, i.leg_0);
      spares = λ k has. elim (spare_bits s.start.spares l k has) [
        | inl same ↦ omega (arith, same, below)
        | inr before ↦ i.spares k before
      ];
      faults = i.faults;
    })

fault_is : (s : Setup) (args : List (List ℕ)) (line : SetupLine) → IsSetup s → fault_line s.start args ≡ Ok line → IsSetup (with_line s line)
fault_is s args line i is =
    let fits = bind_ok (fitting (fits_left (third args))) _ line is in
    let words = bind_ok (ok_or (three args) kinds.Count) _ line fits.2 in
    let leg = bind_ok (number_word words.0.0) _ line words.2 in
    let transfer = bind_ok (number_word words.0.1) _ line leg.2 in
    let new = bind_ok (ok_or (left_of words.0.2) kinds.Word) _ line transfer.2 in
    let fault : FaultLine = record { leg = leg.0; transfer = transfer.0; new = new.0 } in
    let found = ok_or_some (guarded (nat_lt leg.0 s.start.legs) (Fault fault)) kinds.Range line new.2 in
    let made = guarded_some (nat_lt leg.0 s.start.legs) (Fault fault) line found in
    subst (λ l. IsSetup (with_line s l)) {x = Fault fault} made.1
    (record {
      array = i.array;
      some_node = i.some_node;
      nodes = i.nodes;
      leg_0 = i.leg_0;
      spares = i.spares;
      faults = faults_push s.start s.faults fault i.faults (grind (arith, nat_tests, made.0));
    })

not_spare_room : {room l : ℕ} → Room room ≡ Spare l → ⊥
not_spare_room is = cc

not_spare_fault : {f : FaultLine} {l : ℕ} → Fault f ≡ Spare l → ⊥
not_spare_fault is = cc

pub line_keeps : (s : Setup) (word : List ℕ) (args : List (List ℕ)) (line : SetupLine) → IsSetup s → setup_line s.start word args ≡ Ok line → IsSetup (with_line s line)
line_keeps s word args line i is =
    chosen (bytes_eq word (codes "room")) _ _ (Ok line) _ is (room_is s args line i)
    (λ is. chosen (bytes_eq word (codes "spare")) _ _ (Ok line) _ is (spare_is s args line i) (fault_is s args line i))

-- a spare is a leg
pub spare_leg : (s : Start) (word : List ℕ) (args : List (List ℕ)) (l : ℕ) → setup_line s word args ≡ Ok (Spare l) → l < s.legs
spare_leg s word args l is =
    chosen (bytes_eq word (codes "room")) _ _ (Ok (Spare l)) _ is
    (λ is.
    let room = bind_ok (one_number args) _ (Spare l) is in
    let found = ok_or_some (guarded (is_ok (start_sizes (with_room s room.0))) (Room room.0)) kinds.Range (Spare l) room.2 in
    let made = guarded_some (is_ok (start_sizes (with_room s room.0))) (Room room.0) (Spare l) found in
    absurd (not_spare_room {room = room.0} {l = l} made.1))
    (λ is. chosen (bytes_eq word (codes "spare")) _ _ (Ok (Spare l)) _ is
    (λ is.
    let leg = bind_ok (one_number args) _ (Spare l) is in
    let found = ok_or_some (guarded (nat_lt 0 leg.0 && nat_lt leg.0 s.legs) (Spare leg.0)) kinds.Range (Spare l) leg.2 in
    let made = guarded_some (nat_lt 0 leg.0 && nat_lt leg.0 s.legs) (Spare leg.0) (Spare l) found in
    let tests = both (nat_lt 0 leg.0) (nat_lt leg.0 s.legs) made.0 in
    let same : leg.0 ≡ l = cc in
    grind (arith, nat_tests, tests.1))
    (λ is.
    let fits = bind_ok (fitting (fits_left (third args))) _ (Spare l) is in
    let words = bind_ok (ok_or (three args) kinds.Count) _ (Spare l) fits.2 in
    let leg = bind_ok (number_word words.0.0) _ (Spare l) words.2 in
    let transfer = bind_ok (number_word words.0.1) _ (Spare l) leg.2 in
    let new = bind_ok (ok_or (left_of words.0.2) kinds.Word) _ (Spare l) transfer.2 in
    let fault : FaultLine = record { leg = leg.0; transfer = transfer.0; new = new.0 } in
    let found = ok_or_some (guarded (nat_lt leg.0 s.legs) (Fault fault)) kinds.Range (Spare l) new.2 in
    let made = guarded_some (nat_lt leg.0 s.legs) (Fault fault) (Spare l) found in
    absurd (not_spare_fault {f = fault} {l = l} made.1)))

-- an array has at most eight legs
few_legs : (low high : Bool) (rest : Result Sizes GeomError) → is_ok (cond (low || high) (Err Legs) rest) ≡ true → high ≡ false
few_legs true high rest is = absurd (false≢true is)
few_legs false true rest is = absurd (false≢true is)
few_legs false false rest is = refl

pub array_legs : (s : Start) → is_ok (start_sizes s) ≡ true → s.legs ≤ 8
array_legs s is = grind (arith, nat_tests, few_legs (nat_lt s.legs 2) (nat_lt 8 s.legs) _ is)

pub start_legs : (word : List ℕ) (args : List (List ℕ)) (s : Start) → start_of word args ≡ Ok s → s.legs ≤ 8
start_legs word args s is = array_legs s (start_is word args s is).array

-- The whole.

abbrev setup_of : ScriptValue → Setup
setup_of v = record { start = v.start; faults = v.faults }

lines_keep : (s : Setup) (lines : Result (List Line) ScriptFault) (v : ScriptValue) → IsSetup s → with_lines s lines ≡ Ok v → IsSetup (setup_of v)
lines_keep s lines v i is = let ls = bind_ok lines _ v is in subst (λ w. IsSetup (setup_of w)) (ok_same ls.2) i

setup_then_keeps : (first : Bool) (s : Setup) (n : ℕ) (said : Result (List (List ℕ)) FaultKind) (later : Bool → Setup → Result ScriptValue ScriptFault) (body : Result (List Line) ScriptFault) (v : ScriptValue)
    → ((f : Bool) (t : Setup) → IsSetup t → later f t ≡ Ok v → IsSetup (setup_of v)) → IsSetup s → setup_then first s n said later (with_lines s body) ≡ Ok v → IsSetup (setup_of v)
setup_then_keeps first s n (Err kind) later body v f i is = lines_keep s body v i is
setup_then_keeps first s n (Ok []) later body v f i is = f first s i is
setup_then_keeps first s n (Ok (word ∷ args)) later body v f i is =
    chosen (is_setup first word) _ _ (Ok v) _ is
    (λ is.
    let line = bind_ok (at_line n (setup_line s.start word args)) _ v is in
    f false (with_line s line.0) (line_keeps s word args line.0 i (at_line_ok n (setup_line s.start word args) line.0 line.1)) line.2)
    (lines_keep s body v i)

setup_in_keeps : (first : Bool) (s : Setup) (n room : ℕ) (lines : List (List ℕ)) (v : ScriptValue) → IsSetup s → setup_in first s n room lines ≡ Ok v → IsSetup (setup_of v)
setup_in_keeps first s n room [] v i is = lines_keep s (body_of line_of n room []) v i is
setup_in_keeps first s n room (line ∷ lines) v i is =
    setup_then_keeps first s n (said_by room line) (λ f t. setup_in f t (n + 1) (room - length line) lines) (body_of line_of n room (line ∷ lines)) v
    (λ f t j e. setup_in_keeps f t (n + 1) (room - length line) lines v j e) i is

header_then_is : (n : ℕ) (said : Result (List (List ℕ)) FaultKind) (later : Result ScriptValue ScriptFault) (after : Start → Result ScriptValue ScriptFault) (v : ScriptValue)
    → (later ≡ Ok v → IsSetup (setup_of v)) → ((s : Start) → IsSetup (new_setup s) → after s ≡ Ok v → IsSetup (setup_of v)) → header_then start_of n said later after ≡ Ok v → IsSetup (setup_of v)
header_then_is n (Err kind) later after v f g is = cc
header_then_is n (Ok []) later after v f g is = f is
header_then_is n (Ok (word ∷ args)) later after v f g is =
    let start = bind_ok (at_line n (start_of word args)) after v is in
    g start.0 (start_is word args start.0 (at_line_ok n (start_of word args) start.0 start.1)) start.2

script_in_is : (n room : ℕ) (lines : List (List ℕ)) (v : ScriptValue) → script_in n room lines ≡ Ok v → IsSetup (setup_of v)
script_in_is n room [] v is = cc
script_in_is n room (line ∷ lines) v is =
    header_then_is n (said_by room line) (script_in (n + 1) (room - length line) lines) (λ start. setup_in true (new_setup start) (n + 1) (room - length line) lines) v
    (script_in_is (n + 1) (room - length line) lines v)
    (λ s i e. setup_in_keeps true (new_setup s) (n + 1) (room - length line) lines v i e) is

-- each script is an array, with spares and failing transfers of its legs
pub script_is : (bytes : List ℕ) (v : ScriptValue) → judged bytes ≡ Ok v → IsSetup (record { start = v.start; faults = v.faults })
script_is bytes v is = script_in_is 1 script_limit (lines_of bytes) v is

-- What holds of each line that is read.
module _ {L : Type 0} (of : List ℕ → List (List ℕ) → Result L FaultKind) (P : L → Type 0) (each : (word : List ℕ) (args : List (List ℕ)) (line : L) → of word args ≡ Ok line → P line) where
  end_are : (n : ℕ) (args : List (List ℕ)) (lines : List L) → at_line n (alone [] args) ≡ Ok lines → AllByRecursion P lines
  end_are n [] lines is = subst (AllByRecursion P) (ok_same is) tt
  end_are n (arg ∷ args) lines is = cc

  line_then_are : (n : ℕ) (said : Result (List (List ℕ)) FaultKind) (later : Result (List L) ScriptFault) (lines : List L)
      → ((ls : List L) → later ≡ Ok ls → AllByRecursion P ls) → line_then of n said later ≡ Ok lines → AllByRecursion P lines
  line_then_are n (Err kind) later lines f is = cc
  line_then_are n (Ok []) later lines f is = f lines is
  line_then_are n (Ok (word ∷ args)) later lines f is =
      chosen (bytes_eq word (codes "end")) _ _ (Ok lines) _ is
      (end_are n args lines)
      (λ is.
      let first = bind_ok (at_line n (of word args)) _ lines is in
      let others = bind_ok later _ lines first.2 in
      subst (AllByRecursion P) (ok_same others.2) (each word args first.0 (at_line_ok n (of word args) first.0 first.1), f others.0 others.1))

  pub body_are : (n room : ℕ) (lines : List (List ℕ)) (ls : List L) → body_of of n room lines ≡ Ok ls → AllByRecursion P ls
  body_are n room [] ls is = cc
  body_are n room (line ∷ lines) ls is =
      line_then_are n (said_by room line) (body_of of (n + 1) (room - length line) lines) ls (body_are (n + 1) (room - length line) lines) is
