-- Sources and sinks in memory.
use Rattle.std.specs.Prelude.{ℕ, ◌+◌, ◌-◌, ◌^◌, ◌==◌, nat_lt, nat_eq, min, Bool, ◌&&◌, ◌||◌, if◌then◌else◌, List, ◌++◌, length, take, drop}
use Rattle.std.specs.List.{list_any}

-- A count of a u64 stays at its last value.
abbrev pub risen : ℕ → ℕ
risen n = min (n + 1) (2 ^ 64 - 1)

pub record MemInput : Type 0 where
  pub left : List ℕ
  -- the numbers of the calls that fail
  pub failing : List ℕ
  -- the number of the next call
  pub calls : ℕ
  pub faults : ℕ

abbrev pub read_fails : MemInput → Bool
read_fails s = list_any (nat_eq s.calls) s.failing

-- what a call of a buffer of this length gives, and what it leaves
abbrev pub read_len : MemInput → ℕ → ℕ
read_len s len = min len (length s.left)

abbrev pub after_read : MemInput → ℕ → MemInput
after_read s len =
    if read_fails s
    then record s { calls = risen s.calls; faults = risen s.faults }
    else record s { left = drop (read_len s len) s.left; calls = risen s.calls }

pub record MemOutput : Type 0 where
  pub written : List ℕ
  -- the bytes that there is room for
  pub room : ℕ
  pub failing : List ℕ
  pub calls : ℕ
  pub faults : ℕ

-- a call fails that is to fail, or that has a byte and no room for it
abbrev pub write_fails : MemOutput → List ℕ → Bool
write_fails k bytes = list_any (nat_eq k.calls) k.failing || (nat_lt 0 (length bytes) && k.room == 0)

abbrev pub write_len : MemOutput → List ℕ → ℕ
write_len k bytes = min (length bytes) k.room

abbrev pub after_write : MemOutput → List ℕ → MemOutput
after_write k bytes =
    if write_fails k bytes
    then record k { calls = risen k.calls; faults = risen k.faults }
    else record k { written = k.written ++ take (write_len k bytes) bytes; room = k.room - write_len k bytes; calls = risen k.calls }
