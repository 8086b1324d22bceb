-- The ways by which a node comes in.
use Rattle.std.proofs.Common.{◌≡◌, ◌≢◌, ℕ, ◌<◌, ◌==◌, ◌&&◌, Bool, true, false, not, if◌then◌else◌, Option, Some, None, refl, sym, ap, subst, ◌∙◌, arith, nat_lt}
use Rattle.std.specs.Prelude.{is_some, unwrap_or}
use Rattle.std.proofs.lemmas.Bool.{leb-true}
use Rattle.std.proofs.lemmas.Bool.Decides.{nat_tests}
use Rattle.dlm_modes.specs.First.{first_such}
use Rattle.dlm_modes.proofs.FirstLaws.{first_such_some}
use Rattle.dlm_modes.specs.Guards.{first_of}
use Rattle.dlm_modes.specs.Points.{with_at}
use Rattle.dlm_modes.specs.declared.mode.Mode.TheVariants.{CR, PW, EX}
use Rattle.mdc_types.specs.declared.outcomes.Outcome.{Outcome}
use Rattle.mdc_types.specs.declared.outcomes.Outcome.TheVariants as outcomes
use Rattle.mdc_types.specs.declared.refusals.Refusal.TheVariants.{SlotLive, SlotPending, Stale}
use Rattle.mdc_types.specs.declared.roles.NodeState.{NodeState}
use Rattle.mdc_types.specs.declared.roles.NodeState.TheVariants as states
use Rattle.dlm_space.specs.Locks.{holding, asked}
use Rattle.cluster_msgs.specs.Reading.{range_in}
use Rattle.md_superblock.specs.Arrays.{Says, says_in}
use Rattle.msg_rounds.specs.Locks.{token_res, ack_res}
use Rattle.msg_rounds.specs.Phases.{is_idle, has_published}
use Rattle.msg_rounds.specs.declared.phases.SenderPhase.{SenderPhase}
use Rattle.cluster_model.specs.State.{Core, Tried, Unread, Loaded}
use Rattle.cluster_model.specs.After.{with_super, tried_as}
use Rattle.cluster_model.specs.Changes.{covering, no_new_dev}
use Rattle.cluster_model.specs.Guards.{is_out}
use Rattle.cluster_model.specs.Joining.{join_guards, join, load_guards, loaded, up_guards, up, view_from, says_of, events_of, greatest, is_newest, newest, says_at, range_of_member, told_range}
use Rattle.cluster_model.specs.Phases.{is_in, is_up, is_joining}
use Rattle.laws_locks.specs.Rounded.{has_token, stands}
use Rattle.laws_sound.proofs.Guarded.{all_none, unless_none}
use Rattle.laws_sound.proofs.RoundFacts.{no_offer}
use Rattle.laws_sound.proofs.Views.{newest_found}
use Rattle.leg_failure.specs.Views.{fresh_targets}
use Rattle.node_bitmaps.specs.Bitmap.{with_new_legs}
use Rattle.laws_roles.proofs.FinishRows.{others_none}
use Rattle.laws_roles.proofs.Parts.{is_loaded, source_of, with_source}
use Rattle.storage_ways.proofs.Parts.{told_by, joined_there}
use Rattle.storage_ways.proofs.Place.{Around, here, Place}
use Rattle.storage_ways.proofs.Blocks.{retold, told_high, told_kept}
use Rattle.storage_ways.proofs.GrantRows.{held_is}
use Rattle.storage_ways.proofs.Ways.{Way, Silent, joins, loads, comes}

joining_is : (s : NodeState) → is_joining s ≡ true → s ≡ states.Joining
joining_is states.Joining e = refl
joining_is s e = cc

out_is : (s : NodeState) (live : Bool) → live ≡ not (is_out s) → not live ≡ true → s ≡ states.Out
out_is states.Out live e free = refl
out_is s true e free = cc
out_is s false e free = cc

not_true : (b : Bool) → not b ≡ true → b ≡ false
not_true b e = grind arith

published_token : (s : SenderPhase) → has_published s ≡ true → has_token s ≡ true
published_token s e = grind arith

in_not_loaded : (s : NodeState) → is_in s ≡ true → is_loaded s ≡ false → is_up s ≡ true
in_not_loaded s i e = grind arith

loaded_state : (s : NodeState) → is_loaded s ≡ true → s ≡ states.Loaded
loaded_state states.Loaded e = refl
loaded_state s e = cc

number_is : (b : Bool) (x y : ℕ) → (b && (x == y)) ≡ true → x ≡ y
number_is b x y e = grind (arith, nat_tests)

module _ (core : Core) (a : Around) (p : Place core a) where
  -- while one has the token and has published nothing, nobody has
  pub silent_by : (n : ℕ) → has_token (core.sender n) ≡ true → has_published (core.sender n) ≡ false → Silent (here core a)
  silent_by n has silent m = by (has_published (core.sender m)) refl
    where
      by : (b : Bool) → has_published (core.sender m) ≡ b → b ≡ false
      by false e = refl
      by true e =
          let same = p.known.rounded.phased.alone n m has (published_token (core.sender m) e) in
          let no : has_published (core.sender m) ≡ false = subst (λ j. has_published (core.sender j) ≡ false) same silent in cc

  pub no_offer_of : (n : ℕ) → stands (core.sender n) ≡ false → core.offer n ≡ None
  no_offer_of n down = no_offer (core.state n) (core.sender n) (core.offer n) (p.known.rounded.offering.offers n) down

  -- nobody offers while one has the token and no offer of its own stands
  pub none_by : (n : ℕ) → has_token (core.sender n) ≡ true → stands (core.sender n) ≡ false → (m : ℕ) → core.offer m ≡ None
  none_by n has down m = by (m == n) refl
    where
      by : (b : Bool) → (m == n) ≡ b → core.offer m ≡ None
      by true e = let same : n ≡ m = grind (arith, nat_tests) in subst (λ j. core.offer j ≡ None) same (no_offer_of n down)
      by false e = others_none core p.known a.super a.ghost n has m (λ same. let t : (m == n) ≡ true = grind (arith, nat_tests) in cc)

  -- who else is in while one has the token is up
  pub alone_by : (n : ℕ) → has_token (core.sender n) ≡ true → (m : ℕ) → m ≢ n → is_in (core.state m) ≡ true → is_up (core.state m) ≡ true
  alone_by n has m ne inside = by (is_loaded (core.state m)) refl
    where
      by : (b : Bool) → is_loaded (core.state m) ≡ b → is_up (core.state m) ≡ true
      by false e = in_not_loaded (core.state m) inside e
      by true e = absurd (ne (p.known.rounded.phased.alone m n (p.known.rounded.phased.loaded m (loaded_state (core.state m) e)) has))

  pub join_way : (n : ℕ) → first_of (join_guards core n) ≡ None → Way (here core a) (here (join core n) (record a { broken = joined_there a.broken n }))
  join_way n ok =
      let g = (all_none (join_guards core n) ok).1.1 in
      let free = unless_none (not (core.members.live n)) (SlotLive n) g.0 in
      let out = out_is (core.state n) (core.members.live n) (p.known.rounded.numbered.live n) free in
      let idle = p.known.rounded.phased.out n out in
      retold (here core a) (join core n) (record a { broken = joined_there a.broken n }) _
      (told_high (with_at core.locks n (holding (core.locks n) n PW)) token_res (asked (with_at core.locks n (holding (core.locks n) n PW) token_res) n EX) (omega arith) ∙ told_kept core.locks n (holding (core.locks n) n PW) refl)
      (joins n (record {
        out = out;
        dead = not_true (core.members.live n) free;
        recovered = not_true (core.members.pending n) (unless_none (not (core.members.pending n)) (SlotPending n) g.1.0);
        idle = idle;
        none = no_offer_of n (ap stands idle);
      }))

  load_one : (n l : ℕ) (t : Tried) → first_of (load_guards core n l) ≡ None → Way (here core a) (here (loaded core n l t) a)
  load_one n l t ok =
      let g = (all_none (load_guards core n l) ok).1.1.1.1 in
      let held = held_is (core.sender n) (unless_none _ _ g.1.0) in
      loads n l t (unless_none (is_joining (core.state n)) _ g.0) (silent_by n (ap has_token held) (ap has_published held))

  pub load_way : (n l : ℕ) (o : Outcome) → first_of (load_guards core n l) ≡ None → Way (here core a) (here (with_super core n l o) a)
  load_way n l (outcomes.Super events v) ok = load_one n l (tried_as (says_in core.array l v.bytes)) ok
  load_way n l o ok = load_one n l Unread ok

  -- the newest superblock that was read, and its number
  record Newest (tried : ℕ → Tried) : Type 0 where
    leg : ℕ
    says : Says
    is : newest tried ≡ Some says
    read : says_of (tried leg) ≡ Some says
    number : says.events ≡ greatest tried
    source : source_of tried ≡ leg

  newest_at : (tried : ℕ → Tried) (l : ℕ) (t : Tried) → tried l ≡ t → newest tried ≡ says_of (tried l) → is_newest tried l ≡ true → source_of tried ≡ l → Newest tried
  newest_at tried l (Loaded says) e is passes source = record {
    leg = l;
    says = says;
    is = is ∙ ap says_of e;
    read = ap says_of e;
    number = sym (ap events_of e) ∙ number_is (is_some (says_of (tried l))) (events_of (tried l)) (greatest tried) passes;
    source = source;
  }
  newest_at tried l t e is passes source = absurd (none_is (says_of (tried l)) (ap says_of e) passes)
    where
      none_is : (x : Option Says) → x ≡ None → (is_some x && (events_of (tried l) == greatest tried)) ≡ true → ⊥
      none_is None e p = cc
      none_is (Some s) e p = cc

  newest_by : (tried : ℕ → Tried) (x : Option ℕ) → first_such (is_newest tried) 0 8 ≡ x → is_some x ≡ true → Newest tried
  newest_by tried None e some = cc
  newest_by tried (Some l) e some = newest_at tried l (tried l) refl (ap (says_at tried) e) (first_such_some (is_newest tried) 0 8 l e).passes (ap (λ x. unwrap_or x 0) e)

  -- a member's range is the one that its slot's block tells
  member_range : (m : ℕ) → range_of_member core m ≡ (if is_up (core.state m) then told_by core.locks m else None)
  member_range m = by (is_up (core.state m)) refl
    where
      up_out : (s : NodeState) → is_up s ≡ true → is_out s ≡ false
      up_out s e = grind arith

      low : (n : ℕ) → n < 16 → nat_lt n 16 ≡ true
      low n lt = grind (arith, nat_tests)

      by : (b : Bool) → is_up (core.state m) ≡ b → (if b && (core.locks m).valid then told_range (range_in (core.locks m).block.bytes) else None) ≡ (if b then told_by core.locks m else None)
      by false e = refl
      by true e =
          let lt = p.known.rounded.numbered.below m (up_out (core.state m) e) in
          let le = p.known.rounded.numbered.nodes in
          ap (λ t. if t && (core.locks m).valid then told_range (range_in (core.locks m).block.bytes) else None) (sym (low m (omega (arith, lt, le))))

  others_up : (n : ℕ) → is_joining (core.state n) ≡ true → has_token (core.sender n) ≡ true → (m : ℕ) → is_in (core.state m) ≡ true → is_up (core.state m) ≡ true
  others_up n joining has m inside = alone_by n has m (λ same. let here : is_in (core.state n) ≡ true = subst (λ j. is_in (core.state j) ≡ true) same inside in not_in (core.state n) joining here) inside
    where
      not_in : (s : NodeState) → is_joining s ≡ true → is_in s ≡ true → ⊥
      not_in s j i = grind arith

  pub up_way : (n : ℕ) → first_of (up_guards core n) ≡ None → Way (here core a) (here (up core n) (record a { ghost = with_source a.ghost n (source_of (core.tried n)) }))
  up_way n ok =
      let g = (all_none (up_guards core n) ok).1.1.1 in
      let joining = unless_none (is_joining (core.state n)) _ g.0 in
      let joins = joining_is (core.state n) joining in
      let fresh = leb-true _ _ (unless_none _ (Stale (greatest (core.tried n)) core.members.completed) g.1.1.1.0) in
      let least = p.known.range.legs.events.some_completed.0 in
      let f = newest_by (core.tried n) (first_such (is_newest (core.tried n)) 0 8) refl (newest_found (core.tried n) (omega (arith, least, fresh))) in
      let held = held_is (core.sender n) (unless_none _ _ g.1.0) in
      let a' : ℕ → Around = λ j. record a { ghost = with_source a.ghost n j } in
      subst (λ j. Way (here core a) (here (up core n) (a' j))) (sym f.source)
      (retold (here core a) (up core n) (a' f.leg) _
      (told_high (with_at core.locks ack_res (holding (core.locks ack_res) n CR)) no_new_dev (holding (core.locks no_new_dev) n CR) (omega arith) ∙ told_high core.locks ack_res (holding (core.locks ack_res) n CR) (omega arith))
      (subst (λ x. Way (here core a) (record (here (up core n) (a' f.leg)) {
        view = with_at core.view n (view_from (core.tried n) x);
        copy = with_at core.copy n (covering (core.copy n) (view_from (core.tried n) x));
        bitmap = with_at core.bitmap n (with_new_legs (core.bitmap n) (fresh_targets (core.view n) (view_from (core.tried n) x)));
        told = told_by core.locks;
      })) (sym f.is)
      (comes n f.leg f.says _ (range_of_member core) (record {
        joining = joins;
        loaded = f.read;
        stands = p.numbers.loading n f.leg (ap is_some f.read) ∙ f.read;
        new = omega (arith, fresh, f.number);
        none = none_by n (ap has_token held) (ap stands held);
        silent = silent_by n (ap has_token held) (ap has_published held);
        idle = ap is_idle (p.known.rounded.phased.still n (ap is_up joins));
        alone = others_up n joining (ap has_token held);
        copy = (p.known.empty.empty n (ap is_up joins)).copy;
        members = member_range;
      }))))
