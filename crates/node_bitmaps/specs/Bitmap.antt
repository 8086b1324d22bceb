-- The write-intent bitmap of a node, and what surely stands of it on the legs.
use Rattle.std.specs.Prelude.{ℕ, ◌+◌, ◌-◌, ◌==◌, Bool, true, false, not, ◌&&◌, ◌||◌, if◌then◌else◌, Option, is_some}
use Rattle.std.specs.Bool.{beq}
use Rattle.dlm_modes.specs.First.{first_such}
use Rattle.dlm_modes.specs.Points.{with_at}
use Rattle.mdc_types.specs.Geometry.{Sizes, chunks_of, pages_of, page_of}
use Rattle.mdc_types.specs.Pages.{leg_without, first_page_left, leg_left}

pub record Bitmap : Type 0 where
  -- by chunk: whether it is in the set, whether it is to be copied, and how many live writes the node has in it
  pub set : ℕ → Bool
  pub need : ℕ → Bool
  pub writes : ℕ → ℕ
  -- by chunk and leg: whether its bit surely stands there
  pub marks : ℕ → ℕ → Bool
  -- by page and leg: whether the last write of the page there succeeded, and the set hasn't changed in it since
  pub fresh : ℕ → ℕ → Bool

abbrev pub empty : Bitmap
empty = record { set = λ c. false; need = λ c. false; writes = λ c. 0; marks = λ c l. false; fresh = λ p l. false }

-- page p is fresh on no leg
abbrev pub aged : (ℕ → ℕ → Bool) → ℕ → ℕ → ℕ → Bool
aged fresh p q l = fresh q l && not (q == p)

-- whether c is in the set, where that changes its page is fresh no more
abbrev pub with_set : Bitmap → ℕ → Bool → Bitmap
with_set m c b = record m { set = with_at m.set c b; fresh = if beq (m.set c) b then m.fresh else aged m.fresh (page_of c) }

abbrev pub with_need : Bitmap → ℕ → Bool → Bitmap
with_need m c b = record m { need = with_at m.need c b }

-- one live write more, and one less
abbrev pub entered : Bitmap → ℕ → Bitmap
entered m c = record m { writes = with_at m.writes c (m.writes c + 1) }

abbrev pub exited : Bitmap → ℕ → Bitmap
exited m c = record m { writes = with_at m.writes c (m.writes c - 1) }

-- the page was written to the leg: its marks there are the page's chunks
abbrev pub written : Bitmap → ℕ → ℕ → Bitmap
written m p l = record m {
  marks = λ c k. if (page_of c == p) && (k == l) then m.set c else m.marks c k;
  fresh = λ q k. if (q == p) && (k == l) then true else m.fresh q k;
}

-- a write of the page to the leg failed: either page may stand there, so only what both have is sure
abbrev pub failed : Bitmap → ℕ → ℕ → Bitmap
failed m p l = record m {
  marks = λ c k. if (page_of c == p) && (k == l) then m.marks c k && m.set c else m.marks c k;
  fresh = λ q k. if (q == p) && (k == l) then false else m.fresh q k;
}

-- the first of these chunks that isn't in the set
abbrev pub first_new : Sizes → Bitmap → (ℕ → Bool) → Option ℕ
first_new g m has = first_such (λ c. has c && not (m.set c)) 0 (chunks_of g)

-- a page p with these chunks was read: they join the set and are to be copied; where that changes
-- the set, p is fresh no more
abbrev pub found_page : Sizes → Bitmap → ℕ → (ℕ → Bool) → Bitmap
found_page g m p has = record m {
  set = λ c. m.set c || has c;
  need = λ c. m.need c || has c;
  fresh = if is_some (first_new g m has) then aged m.fresh p else m.fresh;
}

-- nothing is known of these legs
abbrev pub with_new_legs : Bitmap → (ℕ → Bool) → Bitmap
with_new_legs m legs = record m {
  marks = λ c k. m.marks c k && not (legs k);
  fresh = λ q k. m.fresh q k && not (legs k);
}

abbrev pub with_new_leg : Bitmap → ℕ → Bitmap
with_new_leg m l = with_new_legs m (λ k. k == l)

-- the node is gone, and its marks stay
abbrev pub forgotten : Bitmap → Bitmap
forgotten m = record empty { marks = m.marks }

-- What a leg is without. Pages go before legs.

-- page p is old on leg l: its last write there failed, or the set has changed in it since
abbrev pub is_old : Bitmap → ℕ → ℕ → Bool
is_old m p l = not (m.fresh p l)

-- the first page and target where it is old
abbrev pub first_old : Sizes → Bitmap → (ℕ → Bool) → Option (ℕ × ℕ)
first_old g m targets = first_page_left m.fresh targets (pages_of g)

-- the least target with an old page
abbrev pub old_target : Sizes → Bitmap → (ℕ → Bool) → Option ℕ
old_target g m targets = leg_left m.fresh targets (pages_of g)

-- chunk c is in the set, and has no mark on leg l
abbrev pub is_unmarked : Bitmap → ℕ → ℕ → Bool
is_unmarked m c l = m.set c && not (m.marks c l)

-- one of these chunks is unmarked on leg l
abbrev pub lacks_mark : Sizes → Bitmap → (ℕ → Bool) → ℕ → Bool
lacks_mark g m chunks l =
    is_some (first_such (λ c. chunks c && is_unmarked m c l) 0 (chunks_of g))

-- a chunk of page p is unmarked on leg l
abbrev pub missing_marks : Sizes → Bitmap → ℕ → ℕ → Bool
missing_marks g m p l = lacks_mark g m (λ c. page_of c == p) l

abbrev pub is_marked : Sizes → Bitmap → ℕ → ℕ → Bool
is_marked g m p l = not (missing_marks g m p l)

-- the first page and target where marks of the page are missing
abbrev pub first_unmarked : Sizes → Bitmap → (ℕ → Bool) → Option (ℕ × ℕ)
first_unmarked g m targets = first_page_left (is_marked g m) targets (pages_of g)

-- the least target where chunk c has no mark
abbrev pub unmarked_target : Bitmap → (ℕ → Bool) → ℕ → Option ℕ
unmarked_target m targets c = leg_without m.marks targets c

-- the least target where one of these chunks is unmarked
abbrev pub unmarked_target_of : Sizes → Bitmap → (ℕ → Bool) → (ℕ → Bool) → Option ℕ
unmarked_target_of g m targets chunks = first_such (λ l. targets l && lacks_mark g m chunks l) 0 8

-- the first chunk of the set, the first that is to be copied, and the first of some chunks that is
abbrev pub first_set : Sizes → Bitmap → Option ℕ
first_set g m = first_such m.set 0 (chunks_of g)

abbrev pub first_needed : Sizes → Bitmap → Option ℕ
first_needed g m = first_such m.need 0 (chunks_of g)

abbrev pub first_needed_of : Sizes → Bitmap → (ℕ → Bool) → Option ℕ
first_needed_of g m chunks = first_such (λ c. chunks c && m.need c) 0 (chunks_of g)
