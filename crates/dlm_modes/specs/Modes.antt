-- Lock modes: which agree, and which conversions write and read the value block.
use Rattle.std.specs.Prelude.{ℕ, nat_le, Bool, true, false, not, ◌&&◌, ◌||◌}
use Rattle.dlm_modes.specs.declared.mode.Mode.{Mode}
use Rattle.dlm_modes.specs.declared.mode.Mode.TheVariants.{NL, CR, CW, PR, PW, EX}

-- whether two nodes may hold a resource in these modes at once
abbrev pub agrees : Mode → Mode → Bool
agrees NL b = true
agrees CR EX = false
agrees CR b = true
agrees CW NL = true
agrees CW CR = true
agrees CW CW = true
agrees CW b = false
agrees PR NL = true
agrees PR CR = true
agrees PR PR = true
agrees PR b = false
agrees PW NL = true
agrees PW CR = true
agrees PW b = false
agrees EX NL = true
agrees EX b = false

-- to agrees with the mode where from does
abbrev pub agrees_where : Mode → Mode → Mode → Bool
agrees_where from to mode = not (agrees from mode) || agrees to mode

-- to agrees with all modes that from agrees with
abbrev pub weaker : Mode → Mode → Bool
weaker from to = agrees_where from to NL && agrees_where from to CR && agrees_where from to CW && agrees_where from to PR && agrees_where from to PW && agrees_where from to EX

-- the order in which the modes stand
abbrev pub rank : Mode → ℕ
rank NL = 0
rank CR = 1
rank CW = 2
rank PR = 3
rank PW = 4
rank EX = 5

-- from EX, and from PW but to EX, the value is written
abbrev pub writes_value : Mode → Mode → Bool
writes_value EX to = true
writes_value PW EX = false
writes_value PW to = true
writes_value from to = false

-- upwards, or to the same mode below PW, the block is handed out
abbrev pub reads_value : Mode → Mode → Bool
reads_value EX to = false
reads_value PW EX = true
reads_value PW to = false
reads_value from to = nat_le (rank from) (rank to)
