-- What a spread lock space keeps, as plain data, and the machine's state for which it stands.
use Rattle.std.specs.Prelude.{◌≡◌, ℕ, ◌==◌, ◌&&◌, nat_lt, ◌++◌, ◌∷◌, if◌then◌else◌, ◌<◌, length, take, slice_index_or, Bool, true, false, List, [], None}
use Rattle.dlm_modes.specs.Points.{with_at}
use Rattle.dlm_space.specs.Locks.{Lock, granted}
use Rattle.dlm_space.specs.declared.answers.Granted.{Granted}
use Rattle.dlm_space.specs.Parts.{Part, locks_of}
use Rattle.lock_wire.specs.Machine.{Ward, Wire, with_cell, with_ward, with_table, sent, named, last_caller, calls_to, report_of}
use Rattle.lock_wire.specs.Packets.{is_on, link_of}
use Rattle.lock_wire.specs.declared.links.Post.{Post}
use Rattle.lock_wire.specs.declared.local.Local.{Local}
use Rattle.lock_wire.specs.declared.local.Local.TheVariants.{Free}
use Rattle.lock_wire.specs.declared.packet.Packet.{Packet}
use Rattle.lock_wire.specs.declared.packet.Packet.TheVariants as packets
use Rattle.lock_wire.specs.declared.ward.Ward.{Ward as WardPart}

-- the packets in the order of their sending, and the room for more
pub record Links : Type 0 where
  pub posts : List Post
  pub room : ℕ

abbrev pub links_of : Links → ℕ → ℕ → List Packet
links_of l = link_of l.posts

abbrev pub tables_of : List (List Part) → ℕ → ℕ → Lock
tables_of tables m = locks_of (slice_index_or tables m [])

-- by node and resource
abbrev pub locals_of : List (List Local) → ℕ → ℕ → Local
locals_of rows n r = slice_index_or (slice_index_or rows n []) r Free

abbrev pub ward_of : WardPart → Ward
ward_of p = record {
  master = p.master;
  awaited = λ n. slice_index_or p.awaited n false;
  stale = p.stale;
  called = λ n. slice_index_or p.called n None;
}

pub record Parts : Type 0 where
  pub nodes : ℕ
  pub live : List Bool
  pub locals : List (List Local)
  pub links : Links
  pub tables : List (List Part)
  pub wards : List WardPart

abbrev pub no_ward_part : WardPart
no_ward_part = record { master = 16; awaited = []; stale = false; called = [] }

abbrev pub wards_of : List WardPart → ℕ → Ward
wards_of wards r = ward_of (slice_index_or wards r no_ward_part)

abbrev pub live_of : List Bool → ℕ → Bool
live_of live n = slice_index_or live n false

abbrev pub wire_of : Parts → Wire
wire_of p = record {
  nodes = p.nodes;
  live = live_of p.live;
  local = locals_of p.locals;
  link = links_of p.links;
  table = tables_of p.tables;
  ward = wards_of p.wards;
}

-- each master is one of sixteen
abbrev pub AreInRange : List WardPart → Type 0
AreInRange wards = (r : ℕ) → r < length wards → (slice_index_or wards r no_ward_part).master < 16

-- the post at i is the first one on the link
pub record IsFirstOn (posts : List Post) (a b i : ℕ) : Type 0 where
  pub below : i < length posts
  pub none_before : link_of (take i posts) a b ≡ []
  pub on : (d : Post) → is_on a b (slice_index_or posts i d) ≡ true

-- the node is told whom the master names to it
abbrev pub calls_one : Wire → ℕ → ℕ → ℕ → Wire
calls_one w m r n = record (with_ward w r (record (w.ward r) { called = with_at (w.ward r).called n (last_caller (named w m r n) ((w.ward r).called n)) })) {
  link = with_cell w.link m n (w.link m n ++ calls_to r (named w m r n));
}

-- the nodes below a number are told
abbrev pub calls_below : Wire → ℕ → ℕ → ℕ → Wire
calls_below w m r k = record (with_ward w r (record (w.ward r) { called = λ n. if nat_lt n k then last_caller (named w m r n) ((w.ward r).called n) else (w.ward r).called n })) {
  link = λ a b. if (a == m) && nat_lt b k then w.link a b ++ calls_to r (named w m r b) else w.link a b;
}

-- the reports of the nodes below a number are sent to the new master
abbrev pub reports_below : Wire → ℕ → ℕ → ℕ → Wire
reports_below w d m k = record w {
  link = λ a b. if (b == m) && (w.live a && nat_lt a k) then w.link a b ++ report_of w d a ∷ [] else w.link a b;
}

-- the head was served, and its node told
abbrev pub granting : Wire → ℕ → ℕ → Granted → Wire
granting w m r g = sent (with_table (with_ward w r (record (w.ward r) { called = λ n. None })) m r (granted (w.table m r))) m g.node (packets.Granted r g)
