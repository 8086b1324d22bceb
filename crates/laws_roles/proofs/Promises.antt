-- What follows at each place: who may be read.
use Rattle.std.proofs.Common.{◌≡◌, ◌⊎◌, inl, inr, ℕ, ◌<◌, ◌≤◌, Bool, true, false, if◌then◌else◌, List, [], ◌∷◌, Option, Some, None, refl, sym, ap, subst, ◌∙◌, arith}
use Rattle.std.specs.Prelude.{is_some}
use Rattle.dlm_modes.proofs.FirstLaws.{first_such_none}
use Rattle.mdc_types.specs.Roles.{role_of, is_working, is_written}
use Rattle.mdc_types.specs.declared.events.Event.{Event}
use Rattle.mdc_types.specs.declared.events.Event.TheVariants as events
use Rattle.mdc_types.specs.declared.outcomes.Entry.{Entry}
use Rattle.mdc_types.specs.declared.roles.Role.TheVariants.{Working}
use Rattle.mdc_types.specs.declared.roles.NodeState.TheVariants as states
use Rattle.md_superblock.specs.Arrays.{Array, Says}
use Rattle.leg_failure.specs.Views.{is_target, is_unacked}
use Rattle.disk_addition.specs.Wishes.{is_announced, is_removing, is_readd}
use Rattle.disk_addition.specs.declared.addition.Addition.{Addition}
use Rattle.cluster_model.specs.Gathering.{is_again_of}
use Rattle.cluster_model.specs.State.{State, Core, Offer}
use Rattle.cluster_model.specs.Phases.{is_metadata}
use Rattle.cluster_model.specs.Opening.{Origin, array_of}
use Rattle.cluster_model.specs.Contents.{Opens}
use Rattle.cluster_model.specs.Run.{Run}
use Rattle.cluster_model.specs.Served.{Served, Current, CalledIn, Trusted, Shut}
use Rattle.cluster_model.specs.Size.{Size, WasSure, NamesSure}
use Rattle.cluster_model.specs.Stored.{super_on}
use Rattle.laws_sound.proofs.Runs.{runs_keep_a_leg}
use Rattle.std.proofs.lemmas.Bool.{ltb-true}
use Rattle.cluster_model.specs.Reads.{r_guards}
use Rattle.cluster_model.specs.Writes.{w_guards}
use Rattle.cluster_model.specs.Table.{refusal}
use Rattle.laws_sound.proofs.Guarded.{all_none, unless_none}
use Rattle.laws_sound.proofs.Supers.{says_fit}
use Rattle.laws_locks.specs.Following.{core_after}
use Rattle.laws_roles.specs.Agreed.{Agreed, agreed_on, agreed_after, agreed_in}
use Rattle.laws_roles.specs.Laws.{Tells, RunsAreShut, Superblocks, RunsHaveSuperblocks, RunsKeepTheSize, RunsLeaveALeg, CalledBy, RolesHold, RunsHaveRoles, AdditionsFit, RunsFitAdditions}
use Rattle.laws_roles.proofs.Parts.{covers, covered_by, is_loaded, Ghost, supers, number, said_role, said_size, ghost_after, ghost_in, finished_by, with_finish, with_promoted}
use Rattle.laws_roles.proofs.Opening.{says_leg}
use Rattle.laws_roles.proofs.Legwise.{legwise}
use Rattle.laws_roles.proofs.Runs.{Holds, At, home, holds, grows, array_is}
use Rattle.laws_roles.proofs.Known.{known}
use Rattle.laws_roles.proofs.InState.{up_is, rebuilding_written, working_role, rebuilding_role, faulty_role, spare_role, up_role, something, same_leg, not_both, agreed_target, good_target, served_good}

-- What was agreed on is a word of its own.

finished_agreed : (g : Ghost) (x : Option Offer) (a : Addition) → (finished_by g x a).agreed ≡ agreed_on g.agreed x
finished_agreed g None a = refl
finished_agreed g (Some o) a = by (is_metadata o.wish)
  where
    by : (b : Bool) → (if b then with_finish g o a else g).agreed ≡ (if b then record { role = o.role; size = o.size } else g.agreed)
    by true = refl
    by false = refl

after_agreed : (core : Core) (e : Event) (g : Ghost) → (ghost_after core e g).agreed ≡ agreed_after core e g.agreed
after_agreed core (events.FinishRound n) g = finished_agreed g (core.offer n) (core.adding n).addition
after_agreed core (events.Offer n wish) g = by (is_metadata wish)
  where
    by : (b : Bool) → (if b then with_promoted g wish else g).agreed ≡ g.agreed
    by true = refl
    by false = refl
after_agreed core e g = refl

pub ghost_agreed : (o : Origin) (home : ℕ) (past : List Entry) → (ghost_in o home past).agreed ≡ agreed_in o past
ghost_agreed o home [] = refl
ghost_agreed o home (x ∷ past) =
    after_agreed (core_after o past) x.event (ghost_in o home past) ∙ ap (agreed_after (core_after o past) x.event) (ghost_agreed o home past)

-- Along runs.

module _ (o : Origin) (start end : State) (past : List Entry) (opens : Opens o start) (tells : Tells o start) (run : Run start past end) where
  h : Holds o.sizes.legs (At o start opens tells past end)
  h = holds o start opens tells past end run

  array : end.core.array ≡ array_of o
  array = array_is o start end past opens run

  served_here : (l : ℕ) → Served end l → (ghost_in o (home o start opens tells) past).good l ≡ true
  served_here l s = served_good (At o start opens tells past end) h.numbers h.roles s.node l s.up s.works

  stands_here : (k : ℕ) (says : Says) → super_on end.core.array end.legs k ≡ Some says → supers (array_of o) end.legs k ≡ Some says
  stands_here k says is = subst (λ a. supers a end.legs k ≡ Some says) array is

  called_here : (l : ℕ) → CalledIn end Working l → (ghost_in o (home o start opens tells) past).good l ≡ true
  called_here l c =
      let is = stands_here c.leg c.current.says c.current.stands in
      h.roles.super_good c.leg l (subst (λ x. end.core.members.completed ≤ number x) (sym is) c.current.new)
      (ap (λ x. is_working (said_role x l)) is ∙ ap is_working c.called)

  trusted_here : (l : ℕ) → Trusted end l → (ghost_in o (home o start opens tells) past).good l ≡ true
  trusted_here l (inl s) = served_here l s
  trusted_here l (inr c) = called_here l c

  pub shut_here : Shut end
  shut_here n l up no_target known served =
      elim (good_target (At o start opens tells past end) h.numbers h.roles n l up (served_here l served)) [
        | inl t ↦ not_both (is_target (end.core.view n) l) no_target t
        | inr u ↦ not_both (is_unacked (end.core.view n) l) known u
      ]

  agreed_role : (l : ℕ) → (ghost_in o (home o start opens tells) past).agreed.role l ≡ (agreed_in o past).role l
  agreed_role l = ap (λ (a : Agreed). a.role l) (ghost_agreed o (home o start opens tells) past)

  role_here : (n l : ℕ) → end.core.state n ≡ states.Up → is_unacked (end.core.view n) l ≡ false → (end.core.view n).role l ≡ (agreed_in o past).role l
  role_here n l up known = legwise (At o start opens tells past end) h.roles n l (up_is (end.core.state n) up) known ∙ agreed_role l

  called_good : (l : ℕ) → CalledBy end l ⊎ CalledIn end Working l → (ghost_in o (home o start opens tells) past).good l ≡ true
  called_good l (inl c) = h.roles.view_good c.node l c.inside (ap is_working c.role)
  called_good l (inr c) = called_here l c

  pub roles_here : RolesHold (agreed_in o past) end
  roles_here = record {
    called = λ l c. ap is_written (sym (agreed_role l)) ∙ h.roles.good_written l (called_good l c);
    written = λ n l up t. good_target (At o start opens tells past end) h.numbers h.roles n l up (trusted_here l t);
    covered = λ n m l pass up is covered.
        let by_pass : covers (end.core.copy m) l ≡ true = ap (λ x. covered_by x l) is ∙ covered in
        agreed_target (At o start opens tells past end) h.numbers h.roles n l up (rebuilding_written ((ghost_in o (home o start opens tells) past).agreed.role l) (h.additions.covers_agreed m l by_pass));
    roles = role_here;
    all_roles = λ n l up acknowledged lt.
        let legs = (known o start end past opens run).range.legs.sizes_fit.legs.1 in
        role_here n l up (first_such_none (is_unacked (end.core.view n)) 0 8 acknowledged l (omega arith) (omega (arith, lt, legs)));
  }

  -- Superblocks.

  current_by : (k : ℕ) (x : Option Says) → super_on end.core.array end.legs k ≡ x → end.core.members.completed ≤ number x → Current end k
  current_by k None is new = let least = h.numbers.some_completed in absurd (omega (arith, least, new))
  current_by k (Some says) is new = record {
    leg = (says_leg end.core.array k (end.legs.content k 8).bytes says is).leg;
    says = says;
    stands = is;
    new = new;
  }

  current_at : (k : ℕ) → end.core.members.completed ≤ number (supers (array_of o) end.legs k) → Current end k
  current_at k new = current_by k (super_on end.core.array end.legs k) refl (subst (λ a. end.core.members.completed ≤ number (supers a end.legs k)) (sym array) new)

  called_at : (k l : ℕ) (x : Option Says) → super_on end.core.array end.legs k ≡ x → end.core.members.completed ≤ number x → is_working (said_role x l) ≡ true → CalledIn end Working l
  called_at k l None is new w = cc
  called_at k l (Some says) is new w = record {
    leg = k;
    current = record {
      leg = (says_leg end.core.array k (end.legs.content k 8).bytes says is).leg;
      says = says;
      stands = is;
      new = new;
    };
    called = working_role (role_of says.roles l) w;
  }

  called_by : (k l : ℕ) → end.core.members.completed ≤ number (supers (array_of o) end.legs k) → is_working (said_role (supers (array_of o) end.legs k) l) ≡ true → CalledIn end Working l
  called_by k l new w =
      called_at k l (super_on end.core.array end.legs k) refl (subst (λ a. end.core.members.completed ≤ number (supers a end.legs k)) (sym array) new)
      (subst (λ a. is_working (said_role (supers a end.legs k) l) ≡ true) (sym array) w)

  pub superblocks_here : Superblocks end
  superblocks_here = record {
    each = λ k lt. subst (λ a. is_some (supers a end.legs k) ≡ true) (sym array) (h.each k (subst (λ (a : Array). k < a.sizes.legs) array lt));
    current = ((ghost_in o (home o start opens tells) past).home, current_at (ghost_in o (home o start opens tells) past).home h.numbers.home_current);
    served = λ l s. current_at l (h.numbers.written_current s.node l (up_is (end.core.state s.node) s.up) (h.roles.good_written l (served_here l s)));
    loaded = λ n l s works_there. called_by ((ghost_in o (home o start opens tells) past).source n) l (h.sources.source_current n (ap is_loaded s)) (h.sources.source_works n l (ap is_loaded s) works_there);
    same = λ j k a b is_a is_b e. same_by j k a b (stands_here j a is_a) (stands_here k b is_b) e;
  }
    where
      same_by : (j k : ℕ) (a b : Says) → supers (array_of o) end.legs j ≡ Some a → supers (array_of o) end.legs k ≡ Some b → a.events ≡ b.events → a ≡ b
      same_by j k a b is_a is_b e =
          let both = h.numbers.same_says j k (ap number is_a ∙ e ∙ sym (ap number is_b)) in
          let equal : Some a ≡ Some b = sym is_a ∙ both ∙ is_b in
          cc

  -- Additions.

  pub additions_here : AdditionsFit (agreed_in o past) end
  additions_here = record {
    up = λ n some. up_role (end.core.state n) (h.additions.adder_up n (something (end.core.adding n).addition some));
    roles = λ n l some. h.additions.adder_roles n l (something (end.core.adding n).addition some) ∙ agreed_role l;
    announced = λ n l is. sym (agreed_role l) ∙ spare_role _ (h.additions.announced_spare n l (ap (λ a. is_announced a l) is ∙ same_leg l));
    removing = λ n l is. sym (agreed_role l) ∙ faulty_role _ (h.additions.removing_faulty n l (ap (λ a. is_removing a l) is ∙ same_leg l));
    readd = λ n l is. sym (agreed_role l) ∙ faulty_role _ (h.additions.readd_faulty n l (ap (λ a. is_readd a l) is ∙ same_leg l));
    again = λ n l is. sym (agreed_role l) ∙ rebuilding_role _ (h.additions.again_rebuilding n l (ap (λ a. is_again_of a l) is ∙ same_leg l));
    covered = λ n l pass is covered. sym (agreed_role l) ∙ rebuilding_role _ (h.additions.covers_agreed n l (ap (λ x. covered_by x l) is ∙ covered));
  }

  -- Sizes.

  sure_below_here : (size : ℕ) → WasSure start past end size → size ≤ (ghost_in o (home o start opens tells) past).agreed.size
  sure_below_here size s =
      let there = holds o start opens tells s.before s.place.state s.place.before in
      let below = there.sizes.sure_below s.node (up_is (s.place.state.core.state s.node) s.up) in
      let grown = grows o start opens tells s.later s.before end (subst (λ x. Run start x end) s.split run) in
      let at_end = subst (λ x. (ghost_in o (home o start opens tells) s.before).agreed.size ≤ (ghost_in o (home o start opens tells) x).agreed.size) (sym s.split) grown in
      omega (arith, below, at_end, s.sure)

  pub size_here : Size start past end
  size_here = record {
    nodes = λ size n s inside. let a = sure_below_here size s in let b = h.sizes.view_size n inside in omega (arith, a, b);
    supers = λ size k says s lt is even.
        let here = stands_here k says is in
        let a = sure_below_here size s in
        let b = h.sizes.super_size k (subst (λ x. end.core.members.completed ≤ number x) (sym here) (omega (arith, even))) in
        let c = ap said_size here in
        omega (arith, a, b, c);
  }

-- a request names a sector that its node is sure of
names_sure : (core : Core) (e : Event) → refusal core e ≡ None → NamesSure core e
names_sure core (events.AskWrite n s v) ok = ltb-true s (core.view n).sure_size (unless_none _ _ (all_none (w_guards core n s) ok).1.1.1.1.1.0)
names_sure core (events.AskRead n s) ok = ltb-true s (core.view n).sure_size (unless_none _ _ (all_none (r_guards core n s) ok).1.1.1.1.1.0)
names_sure core e ok = tt

-- The laws.

pub runs_are_shut : RunsAreShut
runs_are_shut o start end past opens tells run = shut_here o start end past opens tells run

pub runs_have_roles : RunsHaveRoles
runs_have_roles o start end past opens tells run = roles_here o start end past opens tells run

pub runs_have_superblocks : RunsHaveSuperblocks
runs_have_superblocks o start end past opens tells run = superblocks_here o start end past opens tells run

pub runs_keep_the_size : RunsKeepTheSize
runs_keep_the_size o start end past opens tells run = record {
  size = size_here o start end past opens tells run;
  requests = names_sure end.core;
}

pub runs_fit_additions : RunsFitAdditions
runs_fit_additions o start end past opens tells run = additions_here o start end past opens tells run

pub runs_leave_a_leg : RunsLeaveALeg
runs_leave_a_leg o start end past opens run =
    let left = runs_keep_a_leg o start end past opens run in
    record {
      views = left.leg;
      offers = left.offered;
      supers = λ k says is. (says_fit end.core.array k (end.legs.content k 8).bytes says is).working;
    }
