-- Packets, the posts in which they are kept, and the links on which they stand.
use Rattle.std.specs.Prelude.{ℕ, ◌<◌, ◌==◌, Bool, ◌&&◌, ◌||◌, if◌then◌else◌, List, [], ◌∷◌, Option, Some, None}
use Rattle.lock_wire.specs.declared.packet.Packet.{Packet}
use Rattle.lock_wire.specs.declared.packet.Packet.TheVariants as packets
use Rattle.lock_wire.specs.declared.packet.Taken.{Taken}
use Rattle.lock_wire.specs.declared.packet.Taken.TheVariants as kinds
use Rattle.lock_wire.specs.declared.links.Post.{Post}

abbrev pub kind_of : Packet → Taken
kind_of (packets.Ask r mode) = kinds.Ask
kind_of (packets.Convert r mode value) = kinds.Convert
kind_of (packets.Release r value) = kinds.Release
kind_of (packets.Granted r g) = kinds.Granted
kind_of (packets.Called r asker) = kinds.Called
kind_of (packets.Report states) = kinds.Report

-- the resource of which it speaks is there
abbrev pub IsOfResource : Packet → Type 0
IsOfResource (packets.Ask r mode) = r < 21
IsOfResource (packets.Convert r mode value) = r < 21
IsOfResource (packets.Release r value) = r < 21
IsOfResource (packets.Granted r g) = r < 21
IsOfResource (packets.Called r asker) = r < 21
IsOfResource (packets.Report states) = Unit {0}

abbrev pub AreOfResources : List Post → Type 0
AreOfResources [] = Unit {0}
AreOfResources (p ∷ posts) = IsOfResource p.packet × AreOfResources posts

abbrev pub is_on : ℕ → ℕ → Post → Bool
is_on a b p = (p.from == a) && (p.to == b)

-- the packets on the link from a to b, the oldest first
abbrev pub link_of : List Post → ℕ → ℕ → List Packet
link_of [] a b = []
link_of (p ∷ posts) a b = if is_on a b p then p.packet ∷ link_of posts a b else link_of posts a b

abbrev pub first : List Packet → Option Packet
first [] = None
first (p ∷ packets) = Some p

abbrev pub rest : List Packet → List Packet
rest [] = []
rest (p ∷ packets) = packets

-- the post is from the node, or to it
abbrev pub is_of : ℕ → Post → Bool
is_of n p = (p.from == n) || (p.to == n)

-- the posts without those of the node
abbrev pub without_posts : ℕ → List Post → List Post
without_posts n [] = []
without_posts n (p ∷ posts) = if is_of n p then without_posts n posts else p ∷ without_posts n posts

-- at most so many Calleds follow: one to each node, for each resource of which it speaks
abbrev pub most_calls : Packet → ℕ
most_calls (packets.Report states) = 336
most_calls p = 16
