-- What `clap` makes of words of which none begins with `-`, where a command has positional arguments alone.
use Rattle.std.proofs.Common.{◌≡◌, ◌∙◌, ℕ, ◌==◌, Bool, true, false, not, ◌&&◌, List, [], ◌∷◌, Option, Some, None, refl, sym, ap, ap₂, codes, is_some}
use Rattle.std.specs.Prelude.{fold, unwrap_or}
use Rattle.std.specs.List.{list_all}
use Rattle.std.specs.Str.{bytes_eq}
use Rattle.clap.specs.Kinds.{Kinds, or_else}
use Rattle.clap.specs.Lexer.{long_of, short_of}
use Rattle.clap.specs.Walk.{Held, Rule, Row, Walk, idle, value, walk, walked, to_positional, arg_by_index, nothing_held, settled, finished, first_of, rows_after}
use Rattle.clap.specs.Simple.{App, Shape, built, entered, names_of}
use Rattle.clap.specs.Faults.{built_fault, step_fault, walk_fault, turn_fault, settle_fault, defaults_fault, check_fault, entered_fault, is_simple_and_free}
use Rattle.clap.specs.declared.error.kind.ErrorKind.{ErrorKind}
use Rattle.clap.specs.declared.error.kind.ErrorKind.TheVariants as kind
use Rattle.clap.proofs.OnLiterals.{clap_on_literals}
use Rattle.command_words.specs.Commands.{CommandValue, alone_of, show_of, play_of, upgrade_of, created_of, create_of}
use Rattle.command_words.specs.InRows.{word_or, shown, played, upgraded, create_in, show_in, play_in, upgrade_in}
use Rattle.command_words.specs.Grammar.{is_plain, alone_app, show_app, play_app, upgrade_app, create_app}

-- A word that begins with no `-` goes to the positional argument at the next place.

abbrev IsOther : List ℕ → Type 0
IsOther word = (bytes_eq word (45 ∷ 45 ∷ []) ≡ false) × (long_of word ≡ None) × (short_of word ≡ None)

no_dash : (b : Bool) → not b ≡ true → b ≡ false
no_dash true e = cc
no_dash false e = refl

other : (word : List ℕ) → is_plain word ≡ true → IsOther word
other [] plain = (refl, refl, refl)
other (b ∷ word) plain =
    let e : (b == 45) ≡ false = no_dash (b == 45) plain in
    (rw e refl, rw e refl, rw e refl)

abbrev at : Held → ℕ → Walk
at h p = record { held = h; waiting = idle; position = p; is_trailing = false; stopped = None }

abbrev next : List Rule → Held → ℕ → List ℕ → Walk
next c h p word = to_positional c (arg_by_index c p) word (at h p) h

step : (c : List Rule) (h : Held) (p : ℕ) (word : List ℕ) → is_plain word ≡ true → walked c [] (at h p) word ≡ next c h p word
unfolding clap_on_literals
step c h p word plain =
    let o = other word plain in
    rw (o.0, o.1, o.2) refl

turn : (s : Shape) (h : Held) (p : ℕ) (word : List ℕ) → is_plain word ≡ true → turn_fault s [] (at h p) word ≡ step_fault s p h value
turn s h p word plain =
    let o = other word plain in
    rw (o.0, o.1, o.2) refl

-- The walk over these words goes on as that over the rest, and so do its faults.
abbrev Passes : Shape → Held → ℕ → List (List ℕ) → Held → ℕ → List (List ℕ) → Type 0
Passes s h p words h₂ p₂ rest =
    (fold (walked s.rules []) (at h p) words ≡ fold (walked s.rules []) (at h₂ p₂) rest)
    × (walk_fault s [] (at h p) words ≡ walk_fault s [] (at h₂ p₂) rest)

-- one word passes, where an argument stands at its place
word_passes : (s : Shape) (h : Held) (p : ℕ) (h₂ : Held) (p₂ : ℕ) (word : List ℕ) (rest : List (List ℕ)) → is_plain word ≡ true
    → next s.rules h p word ≡ at h₂ p₂ → step_fault s p h value ≡ [] → Passes s h p (word ∷ rest) h₂ p₂ rest
unfolding clap_on_literals
word_passes s h p h₂ p₂ word rest plain goes fits =
    let walks : walked s.rules [] (at h p) word ≡ at h₂ p₂ = step s.rules h p word plain ∙ goes in
    let no_fault : turn_fault s [] (at h p) word ≡ [] = turn s h p word plain ∙ fits in
    (ap (λ w. fold (walked s.rules []) w rest) walks, ap₂ (λ ks w. or_else ks (walk_fault s [] w rest)) no_fault walks)

-- one word too many
word_fails : (s : Shape) (h : Held) (p : ℕ) (word : List ℕ) (rest : List (List ℕ)) → is_plain word ≡ true
    → step_fault s p h value ≡ kind.UnknownArgument ∷ [] → walk_fault s [] (at h p) (word ∷ rest) ≡ kind.UnknownArgument ∷ []
unfolding clap_on_literals
word_fails s h p word rest plain stray =
    let fault : turn_fault s [] (at h p) word ≡ kind.UnknownArgument ∷ [] = turn s h p word plain ∙ stray in
    ap (λ ks. or_else ks (walk_fault s [] (walked s.rules [] (at h p) word) rest)) fault

-- the faults of a command, by the end of its walk and the faults of that
abbrev faults_by : App → Walk → Kinds → Kinds
faults_by a end in_walk =
    or_else in_walk (or_else (entered_fault a end.stopped) (or_else (settle_fault a.top.rules a.top.args_override_self end.held)
    (or_else (defaults_fault (settled a.top.rules end.held).rows a.top.rules)
    (check_fault a.top (finished a.top.rules end.held) (is_some (entered a end.stopped))))))

-- Of the words after the command's name: their faults, and the word that is found for an argument.

abbrev pub faults_at : App → List (List ℕ) → Kinds
faults_at a args = built_fault (built a) nothing_held args

abbrev pub rows_at : App → List (List ℕ) → List Row
rows_at a args = rows_after (built a).top.rules (names_of (built a)) args

abbrev word_at : App → List (List ℕ) → List ℕ → List ℕ → List ℕ
word_at a args = word_or (rows_at a args)

abbrev held_by : App → Held → ℕ → List ℕ → Held
held_by a h p word = (next (built a).top.rules h p word).held

-- The command that the words give where they have no fault, and none where they have.
abbrev pub Reads : Kinds → Option CommandValue → Option CommandValue → Type 0
Reads faults got wanted = (faults ≡ [] → got ≡ wanted) × ((faults ≡ [] → ⊥) → wanted ≡ None)

takes : (faults : Kinds) (got wanted : Option CommandValue) → faults ≡ [] → got ≡ wanted → Reads faults got wanted
takes faults got wanted none is = (λ _. is, λ bad. absurd (bad none))

refuses : (faults : Kinds) (got wanted : Option CommandValue) (k : ErrorKind) → faults ≡ k ∷ [] → wanted ≡ None → Reads faults got wanted
refuses faults got wanted k is none = (λ ok. let bad : k ∷ [] ≡ [] = sym is ∙ ok in cc, λ _. none)

both : (a b : Bool) → (a && b) ≡ true → (a ≡ true) × (b ≡ true)
both true b is = (refl, is)
both false b is = cc

-- `create`

pub create_is : (w : List ℕ) → is_simple_and_free (create_app w) ≡ true
unfolding clap_on_literals
create_is w = refl

abbrev create_1 : List ℕ → List ℕ → Held
create_1 w a = held_by (create_app w) nothing_held 1 a

abbrev create_2 : List ℕ → List ℕ → List ℕ → Held
create_2 w a b = held_by (create_app w) (create_1 w a) 2 b

abbrev create_3 : List ℕ → List ℕ → List ℕ → List ℕ → Held
create_3 w a b c = held_by (create_app w) (create_2 w a b) 3 c

abbrev create_4 : List ℕ → List ℕ → List ℕ → List ℕ → List ℕ → Held
create_4 w a b c d = held_by (create_app w) (create_3 w a b c) 4 d

abbrev create_5 : List ℕ → List ℕ → List ℕ → List ℕ → List ℕ → List ℕ → Held
create_5 w a b c d e = held_by (create_app w) (create_4 w a b c d) 5 e

abbrev create_6 : List ℕ → List ℕ → List ℕ → List ℕ → List ℕ → List ℕ → List ℕ → Held
create_6 w a b c d e f = held_by (create_app w) (create_5 w a b c d e) 6 f

create_step_1 : (w a : List ℕ) (rest : List (List ℕ)) → is_plain a ≡ true → Passes (built (create_app w)).top nothing_held 1 (a ∷ rest) (create_1 w a) 2 rest
unfolding clap_on_literals
create_step_1 w a rest plain = word_passes (built (create_app w)).top nothing_held 1 (create_1 w a) 2 a rest plain refl refl

create_step_2 : (w a b : List ℕ) (rest : List (List ℕ)) → is_plain b ≡ true → Passes (built (create_app w)).top (create_1 w a) 2 (b ∷ rest) (create_2 w a b) 3 rest
unfolding clap_on_literals
create_step_2 w a b rest plain = word_passes (built (create_app w)).top (create_1 w a) 2 (create_2 w a b) 3 b rest plain refl refl

create_step_3 : (w a b c : List ℕ) (rest : List (List ℕ)) → is_plain c ≡ true → Passes (built (create_app w)).top (create_2 w a b) 3 (c ∷ rest) (create_3 w a b c) 4 rest
unfolding clap_on_literals
create_step_3 w a b c rest plain = word_passes (built (create_app w)).top (create_2 w a b) 3 (create_3 w a b c) 4 c rest plain refl refl

create_step_4 : (w a b c d : List ℕ) (rest : List (List ℕ)) → is_plain d ≡ true → Passes (built (create_app w)).top (create_3 w a b c) 4 (d ∷ rest) (create_4 w a b c d) 5 rest
unfolding clap_on_literals
create_step_4 w a b c d rest plain = word_passes (built (create_app w)).top (create_3 w a b c) 4 (create_4 w a b c d) 5 d rest plain refl refl

create_step_5 : (w a b c d e : List ℕ) (rest : List (List ℕ)) → is_plain e ≡ true → Passes (built (create_app w)).top (create_4 w a b c d) 5 (e ∷ rest) (create_5 w a b c d e) 6 rest
unfolding clap_on_literals
create_step_5 w a b c d e rest plain = word_passes (built (create_app w)).top (create_4 w a b c d) 5 (create_5 w a b c d e) 6 e rest plain refl refl

create_step_6 : (w a b c d e f : List ℕ) (rest : List (List ℕ)) → is_plain f ≡ true → Passes (built (create_app w)).top (create_5 w a b c d e) 6 (f ∷ rest) (create_6 w a b c d e f) 7 rest
unfolding clap_on_literals
create_step_6 w a b c d e f rest plain = word_passes (built (create_app w)).top (create_5 w a b c d e) 6 (create_6 w a b c d e f) 7 f rest plain refl refl

create_passes_0 : (w : List ℕ) (rest : List (List ℕ)) → list_all is_plain (rest) ≡ true → Passes (built (create_app w)).top nothing_held 1 (rest) nothing_held 1 rest × (list_all is_plain rest ≡ true)
unfolding clap_on_literals
create_passes_0 w rest plain = ((refl, refl), plain)

create_passes_1 : (w a : List ℕ) (rest : List (List ℕ)) → list_all is_plain (a ∷ rest) ≡ true → Passes (built (create_app w)).top nothing_held 1 (a ∷ rest) (create_1 w a) 2 rest × (list_all is_plain rest ≡ true)
create_passes_1 w a rest plain =
    let before = create_passes_0 w (a ∷ rest) plain in
    let now = both (is_plain a) (list_all is_plain rest) before.1 in
    let more = create_step_1 w a rest now.0 in
    ((before.0.0 ∙ more.0, before.0.1 ∙ more.1), now.1)

create_passes_2 : (w a b : List ℕ) (rest : List (List ℕ)) → list_all is_plain (a ∷ b ∷ rest) ≡ true → Passes (built (create_app w)).top nothing_held 1 (a ∷ b ∷ rest) (create_2 w a b) 3 rest × (list_all is_plain rest ≡ true)
create_passes_2 w a b rest plain =
    let before = create_passes_1 w a (b ∷ rest) plain in
    let now = both (is_plain b) (list_all is_plain rest) before.1 in
    let more = create_step_2 w a b rest now.0 in
    ((before.0.0 ∙ more.0, before.0.1 ∙ more.1), now.1)

create_passes_3 : (w a b c : List ℕ) (rest : List (List ℕ)) → list_all is_plain (a ∷ b ∷ c ∷ rest) ≡ true → Passes (built (create_app w)).top nothing_held 1 (a ∷ b ∷ c ∷ rest) (create_3 w a b c) 4 rest × (list_all is_plain rest ≡ true)
create_passes_3 w a b c rest plain =
    let before = create_passes_2 w a b (c ∷ rest) plain in
    let now = both (is_plain c) (list_all is_plain rest) before.1 in
    let more = create_step_3 w a b c rest now.0 in
    ((before.0.0 ∙ more.0, before.0.1 ∙ more.1), now.1)

create_passes_4 : (w a b c d : List ℕ) (rest : List (List ℕ)) → list_all is_plain (a ∷ b ∷ c ∷ d ∷ rest) ≡ true → Passes (built (create_app w)).top nothing_held 1 (a ∷ b ∷ c ∷ d ∷ rest) (create_4 w a b c d) 5 rest × (list_all is_plain rest ≡ true)
create_passes_4 w a b c d rest plain =
    let before = create_passes_3 w a b c (d ∷ rest) plain in
    let now = both (is_plain d) (list_all is_plain rest) before.1 in
    let more = create_step_4 w a b c d rest now.0 in
    ((before.0.0 ∙ more.0, before.0.1 ∙ more.1), now.1)

create_passes_5 : (w a b c d e : List ℕ) (rest : List (List ℕ)) → list_all is_plain (a ∷ b ∷ c ∷ d ∷ e ∷ rest) ≡ true → Passes (built (create_app w)).top nothing_held 1 (a ∷ b ∷ c ∷ d ∷ e ∷ rest) (create_5 w a b c d e) 6 rest × (list_all is_plain rest ≡ true)
create_passes_5 w a b c d e rest plain =
    let before = create_passes_4 w a b c d (e ∷ rest) plain in
    let now = both (is_plain e) (list_all is_plain rest) before.1 in
    let more = create_step_5 w a b c d e rest now.0 in
    ((before.0.0 ∙ more.0, before.0.1 ∙ more.1), now.1)

create_passes_6 : (w a b c d e f : List ℕ) (rest : List (List ℕ)) → list_all is_plain (a ∷ b ∷ c ∷ d ∷ e ∷ f ∷ rest) ≡ true → Passes (built (create_app w)).top nothing_held 1 (a ∷ b ∷ c ∷ d ∷ e ∷ f ∷ rest) (create_6 w a b c d e f) 7 rest × (list_all is_plain rest ≡ true)
create_passes_6 w a b c d e f rest plain =
    let before = create_passes_5 w a b c d e (f ∷ rest) plain in
    let now = both (is_plain f) (list_all is_plain rest) before.1 in
    let more = create_step_6 w a b c d e f rest now.0 in
    ((before.0.0 ∙ more.0, before.0.1 ∙ more.1), now.1)

create_ends : (w : List ℕ) (args : List (List ℕ)) (h : Held) (p : ℕ) → Passes (built (create_app w)).top nothing_held 1 args h p [] → faults_at (create_app w) args ≡ faults_by (built (create_app w)) (at h p) []
unfolding clap_on_literals
create_ends w args h p passes = ap₂ (faults_by (built (create_app w))) passes.0 passes.1

create_rows : (w : List ℕ) (args : List (List ℕ)) (h : Held) (p : ℕ) → Passes (built (create_app w)).top nothing_held 1 args h p [] → rows_at (create_app w) args ≡ finished (built (create_app w)).top.rules h
unfolding clap_on_literals
create_rows w args h p passes = ap (λ (end : Walk). finished (built (create_app w)).top.rules end.held) passes.0

create_many : (w a b c d e f x : List ℕ) (rest : List (List ℕ)) → list_all is_plain (a ∷ b ∷ c ∷ d ∷ e ∷ f ∷ x ∷ rest) ≡ true → faults_at (create_app w) (a ∷ b ∷ c ∷ d ∷ e ∷ f ∷ x ∷ rest) ≡ kind.UnknownArgument ∷ []
unfolding clap_on_literals
create_many w a b c d e f x rest plain =
    let before = create_passes_6 w a b c d e f (x ∷ rest) plain in
    let now = both (is_plain x) (list_all is_plain rest) before.1 in
    let fault = before.0.1 ∙ word_fails (built (create_app w)).top (create_6 w a b c d e f) 7 x rest now.0 refl in
    ap (faults_by (built (create_app w)) (walk (built (create_app w)).top.rules [] nothing_held (a ∷ b ∷ c ∷ d ∷ e ∷ f ∷ x ∷ rest))) fault

create_has_0 : (w : List ℕ) → list_all is_plain ([]) ≡ true → faults_at (create_app w) ([]) ≡ kind.MissingRequiredArgument ∷ []
unfolding clap_on_literals
create_has_0 w plain = create_ends w ([]) nothing_held 1 (create_passes_0 w [] plain).0

create_has_1 : (w a : List ℕ) → list_all is_plain (a ∷ []) ≡ true → faults_at (create_app w) (a ∷ []) ≡ kind.MissingRequiredArgument ∷ []
unfolding clap_on_literals
create_has_1 w a plain = create_ends w (a ∷ []) (create_1 w a) 2 (create_passes_1 w a [] plain).0

create_has_2 : (w a b : List ℕ) → list_all is_plain (a ∷ b ∷ []) ≡ true → faults_at (create_app w) (a ∷ b ∷ []) ≡ kind.MissingRequiredArgument ∷ []
unfolding clap_on_literals
create_has_2 w a b plain = create_ends w (a ∷ b ∷ []) (create_2 w a b) 3 (create_passes_2 w a b [] plain).0

create_has_3 : (w a b c : List ℕ) → list_all is_plain (a ∷ b ∷ c ∷ []) ≡ true → faults_at (create_app w) (a ∷ b ∷ c ∷ []) ≡ kind.MissingRequiredArgument ∷ []
unfolding clap_on_literals
create_has_3 w a b c plain = create_ends w (a ∷ b ∷ c ∷ []) (create_3 w a b c) 4 (create_passes_3 w a b c [] plain).0

create_has_4 : (w a b c d : List ℕ) → list_all is_plain (a ∷ b ∷ c ∷ d ∷ []) ≡ true → faults_at (create_app w) (a ∷ b ∷ c ∷ d ∷ []) ≡ kind.MissingRequiredArgument ∷ []
unfolding clap_on_literals
create_has_4 w a b c d plain = create_ends w (a ∷ b ∷ c ∷ d ∷ []) (create_4 w a b c d) 5 (create_passes_4 w a b c d [] plain).0

create_has_5 : (w a b c d e : List ℕ) → list_all is_plain (a ∷ b ∷ c ∷ d ∷ e ∷ []) ≡ true → faults_at (create_app w) (a ∷ b ∷ c ∷ d ∷ e ∷ []) ≡ []
unfolding clap_on_literals
create_has_5 w a b c d e plain = create_ends w (a ∷ b ∷ c ∷ d ∷ e ∷ []) (create_5 w a b c d e) 6 (create_passes_5 w a b c d e [] plain).0

create_has_6 : (w a b c d e f : List ℕ) → list_all is_plain (a ∷ b ∷ c ∷ d ∷ e ∷ f ∷ []) ≡ true → faults_at (create_app w) (a ∷ b ∷ c ∷ d ∷ e ∷ f ∷ []) ≡ []
unfolding clap_on_literals
create_has_6 w a b c d e f plain = create_ends w (a ∷ b ∷ c ∷ d ∷ e ∷ f ∷ []) (create_6 w a b c d e f) 7 (create_passes_6 w a b c d e f [] plain).0

create_name_5 : (w a b c d e other : List ℕ) → list_all is_plain (a ∷ b ∷ c ∷ d ∷ e ∷ []) ≡ true → word_at (create_app w) (a ∷ b ∷ c ∷ d ∷ e ∷ []) (codes "NAME") other ≡ a
unfolding clap_on_literals
create_name_5 w a b c d e other plain = ap (λ (rows : List Row). unwrap_or (first_of (codes "NAME") rows) other) (create_rows w (a ∷ b ∷ c ∷ d ∷ e ∷ []) (create_5 w a b c d e) 6 (create_passes_5 w a b c d e [] plain).0)

create_legs_5 : (w a b c d e other : List ℕ) → list_all is_plain (a ∷ b ∷ c ∷ d ∷ e ∷ []) ≡ true → word_at (create_app w) (a ∷ b ∷ c ∷ d ∷ e ∷ []) (codes "LEGS") other ≡ b
unfolding clap_on_literals
create_legs_5 w a b c d e other plain = ap (λ (rows : List Row). unwrap_or (first_of (codes "LEGS") rows) other) (create_rows w (a ∷ b ∷ c ∷ d ∷ e ∷ []) (create_5 w a b c d e) 6 (create_passes_5 w a b c d e [] plain).0)

create_sectors_5 : (w a b c d e other : List ℕ) → list_all is_plain (a ∷ b ∷ c ∷ d ∷ e ∷ []) ≡ true → word_at (create_app w) (a ∷ b ∷ c ∷ d ∷ e ∷ []) (codes "SECTORS") other ≡ c
unfolding clap_on_literals
create_sectors_5 w a b c d e other plain = ap (λ (rows : List Row). unwrap_or (first_of (codes "SECTORS") rows) other) (create_rows w (a ∷ b ∷ c ∷ d ∷ e ∷ []) (create_5 w a b c d e) 6 (create_passes_5 w a b c d e [] plain).0)

create_chunk_5 : (w a b c d e other : List ℕ) → list_all is_plain (a ∷ b ∷ c ∷ d ∷ e ∷ []) ≡ true → word_at (create_app w) (a ∷ b ∷ c ∷ d ∷ e ∷ []) (codes "CHUNK") other ≡ d
unfolding clap_on_literals
create_chunk_5 w a b c d e other plain = ap (λ (rows : List Row). unwrap_or (first_of (codes "CHUNK") rows) other) (create_rows w (a ∷ b ∷ c ∷ d ∷ e ∷ []) (create_5 w a b c d e) 6 (create_passes_5 w a b c d e [] plain).0)

create_uuid_5 : (w a b c d e other : List ℕ) → list_all is_plain (a ∷ b ∷ c ∷ d ∷ e ∷ []) ≡ true → word_at (create_app w) (a ∷ b ∷ c ∷ d ∷ e ∷ []) (codes "UUID") other ≡ e
unfolding clap_on_literals
create_uuid_5 w a b c d e other plain = ap (λ (rows : List Row). unwrap_or (first_of (codes "UUID") rows) other) (create_rows w (a ∷ b ∷ c ∷ d ∷ e ∷ []) (create_5 w a b c d e) 6 (create_passes_5 w a b c d e [] plain).0)

create_room_5 : (w a b c d e other : List ℕ) → list_all is_plain (a ∷ b ∷ c ∷ d ∷ e ∷ []) ≡ true → word_at (create_app w) (a ∷ b ∷ c ∷ d ∷ e ∷ []) (codes "ROOM") other ≡ other
unfolding clap_on_literals
create_room_5 w a b c d e other plain = ap (λ (rows : List Row). unwrap_or (first_of (codes "ROOM") rows) other) (create_rows w (a ∷ b ∷ c ∷ d ∷ e ∷ []) (create_5 w a b c d e) 6 (create_passes_5 w a b c d e [] plain).0)

create_name_6 : (w a b c d e f other : List ℕ) → list_all is_plain (a ∷ b ∷ c ∷ d ∷ e ∷ f ∷ []) ≡ true → word_at (create_app w) (a ∷ b ∷ c ∷ d ∷ e ∷ f ∷ []) (codes "NAME") other ≡ a
unfolding clap_on_literals
create_name_6 w a b c d e f other plain = ap (λ (rows : List Row). unwrap_or (first_of (codes "NAME") rows) other) (create_rows w (a ∷ b ∷ c ∷ d ∷ e ∷ f ∷ []) (create_6 w a b c d e f) 7 (create_passes_6 w a b c d e f [] plain).0)

create_legs_6 : (w a b c d e f other : List ℕ) → list_all is_plain (a ∷ b ∷ c ∷ d ∷ e ∷ f ∷ []) ≡ true → word_at (create_app w) (a ∷ b ∷ c ∷ d ∷ e ∷ f ∷ []) (codes "LEGS") other ≡ b
unfolding clap_on_literals
create_legs_6 w a b c d e f other plain = ap (λ (rows : List Row). unwrap_or (first_of (codes "LEGS") rows) other) (create_rows w (a ∷ b ∷ c ∷ d ∷ e ∷ f ∷ []) (create_6 w a b c d e f) 7 (create_passes_6 w a b c d e f [] plain).0)

create_sectors_6 : (w a b c d e f other : List ℕ) → list_all is_plain (a ∷ b ∷ c ∷ d ∷ e ∷ f ∷ []) ≡ true → word_at (create_app w) (a ∷ b ∷ c ∷ d ∷ e ∷ f ∷ []) (codes "SECTORS") other ≡ c
unfolding clap_on_literals
create_sectors_6 w a b c d e f other plain = ap (λ (rows : List Row). unwrap_or (first_of (codes "SECTORS") rows) other) (create_rows w (a ∷ b ∷ c ∷ d ∷ e ∷ f ∷ []) (create_6 w a b c d e f) 7 (create_passes_6 w a b c d e f [] plain).0)

create_chunk_6 : (w a b c d e f other : List ℕ) → list_all is_plain (a ∷ b ∷ c ∷ d ∷ e ∷ f ∷ []) ≡ true → word_at (create_app w) (a ∷ b ∷ c ∷ d ∷ e ∷ f ∷ []) (codes "CHUNK") other ≡ d
unfolding clap_on_literals
create_chunk_6 w a b c d e f other plain = ap (λ (rows : List Row). unwrap_or (first_of (codes "CHUNK") rows) other) (create_rows w (a ∷ b ∷ c ∷ d ∷ e ∷ f ∷ []) (create_6 w a b c d e f) 7 (create_passes_6 w a b c d e f [] plain).0)

create_uuid_6 : (w a b c d e f other : List ℕ) → list_all is_plain (a ∷ b ∷ c ∷ d ∷ e ∷ f ∷ []) ≡ true → word_at (create_app w) (a ∷ b ∷ c ∷ d ∷ e ∷ f ∷ []) (codes "UUID") other ≡ e
unfolding clap_on_literals
create_uuid_6 w a b c d e f other plain = ap (λ (rows : List Row). unwrap_or (first_of (codes "UUID") rows) other) (create_rows w (a ∷ b ∷ c ∷ d ∷ e ∷ f ∷ []) (create_6 w a b c d e f) 7 (create_passes_6 w a b c d e f [] plain).0)

create_room_6 : (w a b c d e f other : List ℕ) → list_all is_plain (a ∷ b ∷ c ∷ d ∷ e ∷ f ∷ []) ≡ true → word_at (create_app w) (a ∷ b ∷ c ∷ d ∷ e ∷ f ∷ []) (codes "ROOM") other ≡ f
unfolding clap_on_literals
create_room_6 w a b c d e f other plain = ap (λ (rows : List Row). unwrap_or (first_of (codes "ROOM") rows) other) (create_rows w (a ∷ b ∷ c ∷ d ∷ e ∷ f ∷ []) (create_6 w a b c d e f) 7 (create_passes_6 w a b c d e f [] plain).0)

same_made : {A : Type 0} (f : List ℕ → List ℕ → List ℕ → List ℕ → List ℕ → List ℕ → A) (a b c d e g a₂ b₂ c₂ d₂ e₂ g₂ : List ℕ)
    → a ≡ a₂ → b ≡ b₂ → c ≡ c₂ → d ≡ d₂ → e ≡ e₂ → g ≡ g₂ → f a b c d e g ≡ f a₂ b₂ c₂ d₂ e₂ g₂
same_made f a b c d e g a₂ b₂ c₂ d₂ e₂ g₂ p q r s t u = cc

abbrev CreateReads : Bool → List ℕ → List (List ℕ) → Type 0
CreateReads second w args = Reads (faults_at (create_app w) args) (create_in second (rows_at (create_app w) args)) (create_of second args)

pub create_reads : (second : Bool) (w : List ℕ) (args : List (List ℕ)) → list_all is_plain args ≡ true → CreateReads second w args
create_reads second w [] plain = refuses _ _ _ kind.MissingRequiredArgument (create_has_0 w plain) refl
create_reads second w (a ∷ []) plain = refuses _ _ _ kind.MissingRequiredArgument (create_has_1 w a plain) refl
create_reads second w (a ∷ b ∷ []) plain = refuses _ _ _ kind.MissingRequiredArgument (create_has_2 w a b plain) refl
create_reads second w (a ∷ b ∷ c ∷ []) plain = refuses _ _ _ kind.MissingRequiredArgument (create_has_3 w a b c plain) refl
create_reads second w (a ∷ b ∷ c ∷ d ∷ []) plain = refuses _ _ _ kind.MissingRequiredArgument (create_has_4 w a b c d plain) refl
create_reads second w (a ∷ b ∷ c ∷ d ∷ e ∷ []) plain =
    takes _ _ _ (create_has_5 w a b c d e plain) (same_made (created_of second) _ _ _ _ _ _ _ _ _ _ _ _ (create_name_5 w a b c d e [] plain) (create_legs_5 w a b c d e [] plain) (create_sectors_5 w a b c d e [] plain)
    (create_room_5 w a b c d e _ plain ∙ create_sectors_5 w a b c d e [] plain) (create_chunk_5 w a b c d e [] plain) (create_uuid_5 w a b c d e [] plain))
create_reads second w (a ∷ b ∷ c ∷ d ∷ e ∷ f ∷ []) plain =
    takes _ _ _ (create_has_6 w a b c d e f plain) (same_made (created_of second) _ _ _ _ _ _ _ _ _ _ _ _ (create_name_6 w a b c d e f [] plain) (create_legs_6 w a b c d e f [] plain) (create_sectors_6 w a b c d e f [] plain)
    (create_room_6 w a b c d e f _ plain) (create_chunk_6 w a b c d e f [] plain) (create_uuid_6 w a b c d e f [] plain))
create_reads second w (a ∷ b ∷ c ∷ d ∷ e ∷ f ∷ x ∷ rest) plain = refuses _ _ _ kind.UnknownArgument (create_many w a b c d e f x rest plain) refl

-- `show`

pub show_is : (w : List ℕ) → is_simple_and_free (show_app w) ≡ true
unfolding clap_on_literals
show_is w = refl

abbrev show_1 : List ℕ → List ℕ → Held
show_1 w a = held_by (show_app w) nothing_held 1 a

show_step_1 : (w a : List ℕ) (rest : List (List ℕ)) → is_plain a ≡ true → Passes (built (show_app w)).top nothing_held 1 (a ∷ rest) (show_1 w a) 2 rest
unfolding clap_on_literals
show_step_1 w a rest plain = word_passes (built (show_app w)).top nothing_held 1 (show_1 w a) 2 a rest plain refl refl

show_passes_0 : (w : List ℕ) (rest : List (List ℕ)) → list_all is_plain (rest) ≡ true → Passes (built (show_app w)).top nothing_held 1 (rest) nothing_held 1 rest × (list_all is_plain rest ≡ true)
unfolding clap_on_literals
show_passes_0 w rest plain = ((refl, refl), plain)

show_passes_1 : (w a : List ℕ) (rest : List (List ℕ)) → list_all is_plain (a ∷ rest) ≡ true → Passes (built (show_app w)).top nothing_held 1 (a ∷ rest) (show_1 w a) 2 rest × (list_all is_plain rest ≡ true)
show_passes_1 w a rest plain =
    let before = show_passes_0 w (a ∷ rest) plain in
    let now = both (is_plain a) (list_all is_plain rest) before.1 in
    let more = show_step_1 w a rest now.0 in
    ((before.0.0 ∙ more.0, before.0.1 ∙ more.1), now.1)

show_ends : (w : List ℕ) (args : List (List ℕ)) (h : Held) (p : ℕ) → Passes (built (show_app w)).top nothing_held 1 args h p [] → faults_at (show_app w) args ≡ faults_by (built (show_app w)) (at h p) []
unfolding clap_on_literals
show_ends w args h p passes = ap₂ (faults_by (built (show_app w))) passes.0 passes.1

show_rows : (w : List ℕ) (args : List (List ℕ)) (h : Held) (p : ℕ) → Passes (built (show_app w)).top nothing_held 1 args h p [] → rows_at (show_app w) args ≡ finished (built (show_app w)).top.rules h
unfolding clap_on_literals
show_rows w args h p passes = ap (λ (end : Walk). finished (built (show_app w)).top.rules end.held) passes.0

show_many : (w a x : List ℕ) (rest : List (List ℕ)) → list_all is_plain (a ∷ x ∷ rest) ≡ true → faults_at (show_app w) (a ∷ x ∷ rest) ≡ kind.UnknownArgument ∷ []
unfolding clap_on_literals
show_many w a x rest plain =
    let before = show_passes_1 w a (x ∷ rest) plain in
    let now = both (is_plain x) (list_all is_plain rest) before.1 in
    let fault = before.0.1 ∙ word_fails (built (show_app w)).top (show_1 w a) 2 x rest now.0 refl in
    ap (faults_by (built (show_app w)) (walk (built (show_app w)).top.rules [] nothing_held (a ∷ x ∷ rest))) fault

show_has_0 : (w : List ℕ) → list_all is_plain ([]) ≡ true → faults_at (show_app w) ([]) ≡ kind.MissingRequiredArgument ∷ []
unfolding clap_on_literals
show_has_0 w plain = show_ends w ([]) nothing_held 1 (show_passes_0 w [] plain).0

show_has_1 : (w a : List ℕ) → list_all is_plain (a ∷ []) ≡ true → faults_at (show_app w) (a ∷ []) ≡ []
unfolding clap_on_literals
show_has_1 w a plain = show_ends w (a ∷ []) (show_1 w a) 2 (show_passes_1 w a [] plain).0

show_name_1 : (w a other : List ℕ) → list_all is_plain (a ∷ []) ≡ true → word_at (show_app w) (a ∷ []) (codes "NAME") other ≡ a
unfolding clap_on_literals
show_name_1 w a other plain = ap (λ (rows : List Row). unwrap_or (first_of (codes "NAME") rows) other) (show_rows w (a ∷ []) (show_1 w a) 2 (show_passes_1 w a [] plain).0)

pub show_reads : (w : List ℕ) (args : List (List ℕ)) → list_all is_plain args ≡ true
    → Reads (faults_at (show_app w) args) (show_in (rows_at (show_app w) args)) (show_of args)
show_reads w [] plain = refuses _ _ _ kind.MissingRequiredArgument (show_has_0 w plain) refl
show_reads w (a ∷ []) plain = takes _ _ _ (show_has_1 w a plain) (ap shown (show_name_1 w a [] plain))
show_reads w (a ∷ x ∷ rest) plain = refuses _ _ _ kind.UnknownArgument (show_many w a x rest plain) refl

-- `play`

pub play_is : (w : List ℕ) → is_simple_and_free (play_app w) ≡ true
unfolding clap_on_literals
play_is w = refl

abbrev play_1 : List ℕ → List ℕ → Held
play_1 w a = held_by (play_app w) nothing_held 1 a

play_step_1 : (w a : List ℕ) (rest : List (List ℕ)) → is_plain a ≡ true → Passes (built (play_app w)).top nothing_held 1 (a ∷ rest) (play_1 w a) 2 rest
unfolding clap_on_literals
play_step_1 w a rest plain = word_passes (built (play_app w)).top nothing_held 1 (play_1 w a) 2 a rest plain refl refl

play_passes_0 : (w : List ℕ) (rest : List (List ℕ)) → list_all is_plain (rest) ≡ true → Passes (built (play_app w)).top nothing_held 1 (rest) nothing_held 1 rest × (list_all is_plain rest ≡ true)
unfolding clap_on_literals
play_passes_0 w rest plain = ((refl, refl), plain)

play_passes_1 : (w a : List ℕ) (rest : List (List ℕ)) → list_all is_plain (a ∷ rest) ≡ true → Passes (built (play_app w)).top nothing_held 1 (a ∷ rest) (play_1 w a) 2 rest × (list_all is_plain rest ≡ true)
play_passes_1 w a rest plain =
    let before = play_passes_0 w (a ∷ rest) plain in
    let now = both (is_plain a) (list_all is_plain rest) before.1 in
    let more = play_step_1 w a rest now.0 in
    ((before.0.0 ∙ more.0, before.0.1 ∙ more.1), now.1)

play_ends : (w : List ℕ) (args : List (List ℕ)) (h : Held) (p : ℕ) → Passes (built (play_app w)).top nothing_held 1 args h p [] → faults_at (play_app w) args ≡ faults_by (built (play_app w)) (at h p) []
unfolding clap_on_literals
play_ends w args h p passes = ap₂ (faults_by (built (play_app w))) passes.0 passes.1

play_rows : (w : List ℕ) (args : List (List ℕ)) (h : Held) (p : ℕ) → Passes (built (play_app w)).top nothing_held 1 args h p [] → rows_at (play_app w) args ≡ finished (built (play_app w)).top.rules h
unfolding clap_on_literals
play_rows w args h p passes = ap (λ (end : Walk). finished (built (play_app w)).top.rules end.held) passes.0

play_many : (w a x : List ℕ) (rest : List (List ℕ)) → list_all is_plain (a ∷ x ∷ rest) ≡ true → faults_at (play_app w) (a ∷ x ∷ rest) ≡ kind.UnknownArgument ∷ []
unfolding clap_on_literals
play_many w a x rest plain =
    let before = play_passes_1 w a (x ∷ rest) plain in
    let now = both (is_plain x) (list_all is_plain rest) before.1 in
    let fault = before.0.1 ∙ word_fails (built (play_app w)).top (play_1 w a) 2 x rest now.0 refl in
    ap (faults_by (built (play_app w)) (walk (built (play_app w)).top.rules [] nothing_held (a ∷ x ∷ rest))) fault

play_has_0 : (w : List ℕ) → list_all is_plain ([]) ≡ true → faults_at (play_app w) ([]) ≡ []
unfolding clap_on_literals
play_has_0 w plain = play_ends w ([]) nothing_held 1 (play_passes_0 w [] plain).0

play_has_1 : (w a : List ℕ) → list_all is_plain (a ∷ []) ≡ true → faults_at (play_app w) (a ∷ []) ≡ []
unfolding clap_on_literals
play_has_1 w a plain = play_ends w (a ∷ []) (play_1 w a) 2 (play_passes_1 w a [] plain).0

play_name_0 : (w : List ℕ) → first_of (codes "NAME") (rows_at (play_app w) []) ≡ None
unfolding clap_on_literals
play_name_0 w = ap (first_of (codes "NAME")) (play_rows w [] nothing_held 1 (play_passes_0 w [] refl).0)

play_name_1 : (w a : List ℕ) → list_all is_plain (a ∷ []) ≡ true → first_of (codes "NAME") (rows_at (play_app w) (a ∷ [])) ≡ Some a
unfolding clap_on_literals
play_name_1 w a plain = ap (first_of (codes "NAME")) (play_rows w (a ∷ []) (play_1 w a) 2 (play_passes_1 w a [] plain).0)

pub play_reads : (w : List ℕ) (args : List (List ℕ)) → list_all is_plain args ≡ true
    → Reads (faults_at (play_app w) args) (play_in (rows_at (play_app w) args)) (play_of args)
play_reads w [] plain = takes _ _ _ (play_has_0 w plain) (ap played (play_name_0 w))
play_reads w (a ∷ []) plain = takes _ _ _ (play_has_1 w a plain) (ap played (play_name_1 w a plain))
play_reads w (a ∷ x ∷ rest) plain = refuses _ _ _ kind.UnknownArgument (play_many w a x rest plain) refl

-- `upgrade`

pub upgrade_is : (w : List ℕ) → is_simple_and_free (upgrade_app w) ≡ true
unfolding clap_on_literals
upgrade_is w = refl

abbrev upgrade_1 : List ℕ → List ℕ → Held
upgrade_1 w a = held_by (upgrade_app w) nothing_held 1 a

abbrev upgrade_2 : List ℕ → List ℕ → List ℕ → Held
upgrade_2 w a b = held_by (upgrade_app w) (upgrade_1 w a) 2 b

upgrade_step_1 : (w a : List ℕ) (rest : List (List ℕ)) → is_plain a ≡ true → Passes (built (upgrade_app w)).top nothing_held 1 (a ∷ rest) (upgrade_1 w a) 2 rest
unfolding clap_on_literals
upgrade_step_1 w a rest plain = word_passes (built (upgrade_app w)).top nothing_held 1 (upgrade_1 w a) 2 a rest plain refl refl

upgrade_step_2 : (w a b : List ℕ) (rest : List (List ℕ)) → is_plain b ≡ true → Passes (built (upgrade_app w)).top (upgrade_1 w a) 2 (b ∷ rest) (upgrade_2 w a b) 3 rest
unfolding clap_on_literals
upgrade_step_2 w a b rest plain = word_passes (built (upgrade_app w)).top (upgrade_1 w a) 2 (upgrade_2 w a b) 3 b rest plain refl refl

upgrade_passes_0 : (w : List ℕ) (rest : List (List ℕ)) → list_all is_plain (rest) ≡ true → Passes (built (upgrade_app w)).top nothing_held 1 (rest) nothing_held 1 rest × (list_all is_plain rest ≡ true)
unfolding clap_on_literals
upgrade_passes_0 w rest plain = ((refl, refl), plain)

upgrade_passes_1 : (w a : List ℕ) (rest : List (List ℕ)) → list_all is_plain (a ∷ rest) ≡ true → Passes (built (upgrade_app w)).top nothing_held 1 (a ∷ rest) (upgrade_1 w a) 2 rest × (list_all is_plain rest ≡ true)
upgrade_passes_1 w a rest plain =
    let before = upgrade_passes_0 w (a ∷ rest) plain in
    let now = both (is_plain a) (list_all is_plain rest) before.1 in
    let more = upgrade_step_1 w a rest now.0 in
    ((before.0.0 ∙ more.0, before.0.1 ∙ more.1), now.1)

upgrade_passes_2 : (w a b : List ℕ) (rest : List (List ℕ)) → list_all is_plain (a ∷ b ∷ rest) ≡ true → Passes (built (upgrade_app w)).top nothing_held 1 (a ∷ b ∷ rest) (upgrade_2 w a b) 3 rest × (list_all is_plain rest ≡ true)
upgrade_passes_2 w a b rest plain =
    let before = upgrade_passes_1 w a (b ∷ rest) plain in
    let now = both (is_plain b) (list_all is_plain rest) before.1 in
    let more = upgrade_step_2 w a b rest now.0 in
    ((before.0.0 ∙ more.0, before.0.1 ∙ more.1), now.1)

upgrade_ends : (w : List ℕ) (args : List (List ℕ)) (h : Held) (p : ℕ) → Passes (built (upgrade_app w)).top nothing_held 1 args h p [] → faults_at (upgrade_app w) args ≡ faults_by (built (upgrade_app w)) (at h p) []
unfolding clap_on_literals
upgrade_ends w args h p passes = ap₂ (faults_by (built (upgrade_app w))) passes.0 passes.1

upgrade_rows : (w : List ℕ) (args : List (List ℕ)) (h : Held) (p : ℕ) → Passes (built (upgrade_app w)).top nothing_held 1 args h p [] → rows_at (upgrade_app w) args ≡ finished (built (upgrade_app w)).top.rules h
unfolding clap_on_literals
upgrade_rows w args h p passes = ap (λ (end : Walk). finished (built (upgrade_app w)).top.rules end.held) passes.0

upgrade_many : (w a b x : List ℕ) (rest : List (List ℕ)) → list_all is_plain (a ∷ b ∷ x ∷ rest) ≡ true → faults_at (upgrade_app w) (a ∷ b ∷ x ∷ rest) ≡ kind.UnknownArgument ∷ []
unfolding clap_on_literals
upgrade_many w a b x rest plain =
    let before = upgrade_passes_2 w a b (x ∷ rest) plain in
    let now = both (is_plain x) (list_all is_plain rest) before.1 in
    let fault = before.0.1 ∙ word_fails (built (upgrade_app w)).top (upgrade_2 w a b) 3 x rest now.0 refl in
    ap (faults_by (built (upgrade_app w)) (walk (built (upgrade_app w)).top.rules [] nothing_held (a ∷ b ∷ x ∷ rest))) fault

upgrade_has_0 : (w : List ℕ) → list_all is_plain ([]) ≡ true → faults_at (upgrade_app w) ([]) ≡ kind.MissingRequiredArgument ∷ []
unfolding clap_on_literals
upgrade_has_0 w plain = upgrade_ends w ([]) nothing_held 1 (upgrade_passes_0 w [] plain).0

upgrade_has_1 : (w a : List ℕ) → list_all is_plain (a ∷ []) ≡ true → faults_at (upgrade_app w) (a ∷ []) ≡ kind.MissingRequiredArgument ∷ []
unfolding clap_on_literals
upgrade_has_1 w a plain = upgrade_ends w (a ∷ []) (upgrade_1 w a) 2 (upgrade_passes_1 w a [] plain).0

upgrade_has_2 : (w a b : List ℕ) → list_all is_plain (a ∷ b ∷ []) ≡ true → faults_at (upgrade_app w) (a ∷ b ∷ []) ≡ []
unfolding clap_on_literals
upgrade_has_2 w a b plain = upgrade_ends w (a ∷ b ∷ []) (upgrade_2 w a b) 3 (upgrade_passes_2 w a b [] plain).0

upgrade_name_2 : (w a b other : List ℕ) → list_all is_plain (a ∷ b ∷ []) ≡ true → word_at (upgrade_app w) (a ∷ b ∷ []) (codes "NAME") other ≡ a
unfolding clap_on_literals
upgrade_name_2 w a b other plain = ap (λ (rows : List Row). unwrap_or (first_of (codes "NAME") rows) other) (upgrade_rows w (a ∷ b ∷ []) (upgrade_2 w a b) 3 (upgrade_passes_2 w a b [] plain).0)

upgrade_to_2 : (w a b other : List ℕ) → list_all is_plain (a ∷ b ∷ []) ≡ true → word_at (upgrade_app w) (a ∷ b ∷ []) (codes "TO") other ≡ b
unfolding clap_on_literals
upgrade_to_2 w a b other plain = ap (λ (rows : List Row). unwrap_or (first_of (codes "TO") rows) other) (upgrade_rows w (a ∷ b ∷ []) (upgrade_2 w a b) 3 (upgrade_passes_2 w a b [] plain).0)

pub upgrade_reads : (w : List ℕ) (args : List (List ℕ)) → list_all is_plain args ≡ true
    → Reads (faults_at (upgrade_app w) args) (upgrade_in (rows_at (upgrade_app w) args)) (upgrade_of args)
upgrade_reads w [] plain = refuses _ _ _ kind.MissingRequiredArgument (upgrade_has_0 w plain) refl
upgrade_reads w (a ∷ []) plain = refuses _ _ _ kind.MissingRequiredArgument (upgrade_has_1 w a plain) refl
upgrade_reads w (a ∷ b ∷ []) plain = takes _ _ _ (upgrade_has_2 w a b plain) (ap₂ upgraded (upgrade_name_2 w a b [] plain) (upgrade_to_2 w a b [] plain))
upgrade_reads w (a ∷ b ∷ x ∷ rest) plain = refuses _ _ _ kind.UnknownArgument (upgrade_many w a b x rest plain) refl

-- `locks` and `wire`

pub alone_is : (w : List ℕ) → is_simple_and_free (alone_app w) ≡ true
unfolding clap_on_literals
alone_is w = refl

alone_passes_0 : (w : List ℕ) (rest : List (List ℕ)) → list_all is_plain (rest) ≡ true → Passes (built (alone_app w)).top nothing_held 1 (rest) nothing_held 1 rest × (list_all is_plain rest ≡ true)
unfolding clap_on_literals
alone_passes_0 w rest plain = ((refl, refl), plain)

alone_ends : (w : List ℕ) (args : List (List ℕ)) (h : Held) (p : ℕ) → Passes (built (alone_app w)).top nothing_held 1 args h p [] → faults_at (alone_app w) args ≡ faults_by (built (alone_app w)) (at h p) []
unfolding clap_on_literals
alone_ends w args h p passes = ap₂ (faults_by (built (alone_app w))) passes.0 passes.1

alone_many : (w x : List ℕ) (rest : List (List ℕ)) → list_all is_plain (x ∷ rest) ≡ true → faults_at (alone_app w) (x ∷ rest) ≡ kind.UnknownArgument ∷ []
unfolding clap_on_literals
alone_many w x rest plain =
    let before = alone_passes_0 w (x ∷ rest) plain in
    let now = both (is_plain x) (list_all is_plain rest) before.1 in
    let fault = before.0.1 ∙ word_fails (built (alone_app w)).top nothing_held 1 x rest now.0 refl in
    ap (faults_by (built (alone_app w)) (walk (built (alone_app w)).top.rules [] nothing_held (x ∷ rest))) fault

alone_has_0 : (w : List ℕ) → list_all is_plain ([]) ≡ true → faults_at (alone_app w) ([]) ≡ []
unfolding clap_on_literals
alone_has_0 w plain = alone_ends w ([]) nothing_held 1 (alone_passes_0 w [] plain).0

pub alone_reads : (command : CommandValue) (w : List ℕ) (args : List (List ℕ)) → list_all is_plain args ≡ true
    → Reads (faults_at (alone_app w) args) (Some command) (alone_of command args)
alone_reads command w [] plain = takes _ _ _ (alone_has_0 w plain) refl
alone_reads command w (x ∷ rest) plain = refuses _ _ _ kind.UnknownArgument (alone_many w x rest plain) refl
