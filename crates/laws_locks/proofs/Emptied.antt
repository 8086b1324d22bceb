-- What keeps a node empty that isn't up.
use Rattle.std.proofs.Common.{◌≡◌, ◌≢◌, ◌⊎◌, inl, inr, ℕ, Bool, true, false, [], None, refl, sym, ap, ◌∙◌, subst, arith, ◌==◌, ◌&&◌}
use Rattle.std.proofs.lemmas.Bool.Decides.{nat_tests}
use Rattle.dlm_modes.specs.Points.{with_at}
use Rattle.msg_rounds.specs.Phases.{has_published}
use Rattle.cluster_model.specs.State.{Core}
use Rattle.cluster_model.specs.Phases.{is_up, is_unclean, offers}
use Rattle.cluster_model.specs.Changes.{no_copy}
use Rattle.laws_locks.specs.Empties.{Empty, Drained, UpOnly}

pub other_at : {A : Type 0} (f : ℕ → A) (n : ℕ) (v : A) (m : ℕ) → m ≢ n → with_at f n v m ≡ f m
other_at f n v m ne = rw (tells m n ne) refl
  where
    tells : (m n : ℕ) → m ≢ n → (m == n) ≡ false
    tells m n ne = grind (arith, nat_tests)

-- a row of the node, which is up and stays so: what others have stays, and what it has in flight ends at most
pub record Own (new core : Core) (n : ℕ) : Type 0 where
  pub state : new.state ≡ core.state
  pub sender : new.sender ≡ core.sender
  pub offer : new.offer ≡ core.offer
  pub writes : (m : ℕ) → m ≢ n → new.writes m ≡ core.writes m
  pub reads : (m : ℕ) → m ≢ n → new.reads m ≡ core.reads m
  pub copy : (m : ℕ) → m ≢ n → new.copy m ≡ core.copy m
  pub recovery : (m : ℕ) → m ≢ n → new.recovery m ≡ core.recovery m
  pub set : (m c : ℕ) → m ≢ n → (new.bitmap m).set c ≡ (core.bitmap m).set c
  pub need : (m c : ℕ) → m ≢ n → (new.bitmap m).need c ≡ (core.bitmap m).need c
  pub no_writes : (has_published (core.sender n) && offers is_unclean (core.offer n)) ≡ true → core.writes n ≡ [] → new.writes n ≡ []
  pub no_reads : (has_published (core.sender n) && offers is_unclean (core.offer n)) ≡ true → core.reads n ≡ [] → new.reads n ≡ []

pub same_or_not : (m n : ℕ) → (m ≡ n) ⊎ (m ≢ n)
same_or_not m n = grind (arith, nat_tests)

both : (a b : Bool) → a ≡ true → b ≡ true → (a && b) ≡ true
both a b e f = grind arith

no_both : (b : Bool) → b ≡ true → b ≡ false → ⊥
no_both b e f = grind arith

pub own_keeps : (new core : Core) (n : ℕ) → Own new core n → is_up (core.state n) ≡ true → UpOnly core → UpOnly new
own_keeps new core n q up u = record {
  empty = λ m down. (let was : is_up (core.state m) ≡ false = ap (λ f. is_up (f m)) (sym q.state) ∙ down in
      let ne : m ≢ n = λ s. no_both _ up (ap (λ j. is_up (core.state j)) (sym s) ∙ was) in
      let e = u.empty m was in
      record {
        writes = q.writes m ne ∙ e.writes;
        reads = q.reads m ne ∙ e.reads;
        copy = q.copy m ne ∙ e.copy;
        recovery = q.recovery m ne ∙ e.recovery;
        set = λ c. q.set m c ne ∙ e.set c;
        need = λ c. q.need m c ne ∙ e.need c;
      });
  drained = λ m p f.
      (let p0 : has_published (core.sender m) ≡ true = ap (λ g. has_published (g m)) (sym q.sender) ∙ p in
      let f0 : offers is_unclean (core.offer m) ≡ true = ap (λ g. offers is_unclean (g m)) (sym q.offer) ∙ f in
      by_test m p0 f0 (same_or_not m n));
}
  where
    by_test : (m : ℕ) → has_published (core.sender m) ≡ true → offers is_unclean (core.offer m) ≡ true → (m ≡ n) ⊎ (m ≢ n) → Drained new m
    by_test m p f (inl s) =
        let d = u.drained m p f in
        let here = both _ _ p f in
        record {
          writes = subst (λ j. (has_published (core.sender j) && offers is_unclean (core.offer j)) ≡ true → core.writes j ≡ [] → new.writes j ≡ []) (sym s) q.no_writes here d.writes;
          reads = subst (λ j. (has_published (core.sender j) && offers is_unclean (core.offer j)) ≡ true → core.reads j ≡ [] → new.reads j ≡ []) (sym s) q.no_reads here d.reads;
        }
    by_test m p f (inr s) = let d = u.drained m p f in record { writes = q.writes m s ∙ d.writes; reads = q.reads m s ∙ d.reads }

-- a row that leaves empty what is so, at every node
pub record Tame (new core : Core) : Type 0 where
  pub down : (m : ℕ) → is_up (new.state m) ≡ false → is_up (core.state m) ≡ false
  pub writes : (m : ℕ) → core.writes m ≡ [] → new.writes m ≡ []
  pub reads : (m : ℕ) → core.reads m ≡ [] → new.reads m ≡ []
  pub copy : (m : ℕ) → core.copy m ≡ no_copy → is_up (new.state m) ≡ false → new.copy m ≡ no_copy
  pub recovery : (m : ℕ) → core.recovery m ≡ None → new.recovery m ≡ None
  pub set : (m c : ℕ) → (new.bitmap m).set c ≡ (core.bitmap m).set c
  pub need : (m c : ℕ) → (new.bitmap m).need c ≡ (core.bitmap m).need c
  pub drains : (m : ℕ) → has_published (new.sender m) ≡ true → offers is_unclean (new.offer m) ≡ true → Drained core m

pub tame_keeps : (new core : Core) → Tame new core → UpOnly core → UpOnly new
tame_keeps new core q u = record {
  empty = λ m down. (let e = u.empty m (q.down m down) in
      record {
        writes = q.writes m e.writes;
        reads = q.reads m e.reads;
        copy = q.copy m e.copy down;
        recovery = q.recovery m e.recovery;
        set = λ c. q.set m c ∙ e.set c;
        need = λ c. q.need m c ∙ e.need c;
      });
  drained = λ m p f. (let d = q.drains m p f in record { writes = q.writes m d.writes; reads = q.reads m d.reads });
}

-- a node that goes out
pub record Gone (new core : Core) (n : ℕ) : Type 0 where
  pub state : (m : ℕ) → m ≢ n → new.state m ≡ core.state m
  pub others : (m : ℕ) → m ≢ n → Empty core m → Empty new m
  pub empty : Empty new n
  pub drains : (m : ℕ) → m ≢ n → has_published (new.sender m) ≡ true → offers is_unclean (new.offer m) ≡ true → Drained core m
  pub still : (m : ℕ) → m ≢ n → Drained core m → Drained new m

pub gone_empties : (new core : Core) (n : ℕ) → Gone new core n → UpOnly core → UpOnly new
gone_empties new core n q u = record {
  empty = λ m down. empty_at m down (same_or_not m n);
  drained = λ m p f. drained_at m p f (same_or_not m n);
}
  where
    empty_at : (m : ℕ) → is_up (new.state m) ≡ false → (m ≡ n) ⊎ (m ≢ n) → Empty new m
    empty_at m down (inl s) = subst (Empty new) (sym s) q.empty
    empty_at m down (inr ne) = q.others m ne (u.empty m (ap is_up (sym (q.state m ne)) ∙ down))

    drained_at : (m : ℕ) → has_published (new.sender m) ≡ true → offers is_unclean (new.offer m) ≡ true → (m ≡ n) ⊎ (m ≢ n) → Drained new m
    drained_at m p f (inl s) = subst (Drained new) (sym s) (record { writes = q.empty.writes; reads = q.empty.reads })
    drained_at m p f (inr ne) = q.still m ne (q.drains m ne p f)
