-- The words of modes, kinds of messages, resources, parts of a node, phases and roles.
use Rattle.std.specs.Prelude.{ℕ, ◌+◌, ◌/◌, ◌%◌, ◌==◌, if◌then◌else◌, List, [], ◌∷◌, ◌++◌, codes, decimal}
use Rattle.dlm_modes.specs.declared.mode.Mode.{Mode}
use Rattle.dlm_modes.specs.declared.mode.Mode.TheVariants.{NL, CR, CW, PR, PW, EX}
use Rattle.mdc_types.specs.declared.resources.Res.{Res}
use Rattle.mdc_types.specs.declared.resources.Res.TheVariants.{Bitmap, Token, Message, Ack, NoNewDev, Resync}
use Rattle.mdc_types.specs.declared.roles.Role.{Role}
use Rattle.mdc_types.specs.declared.roles.Role.TheVariants.{Working, Rebuilding, Faulty, Spare}
use Rattle.mdc_types.specs.declared.refusals.Part.{Part}
use Rattle.mdc_types.specs.declared.refusals.Part.TheVariants as parts
use Rattle.mdc_types.specs.declared.refusals.Word.{Word}
use Rattle.mdc_types.specs.declared.refusals.Word.TheVariants as phases

abbrev pub mode_word : Mode → List ℕ
mode_word NL = codes "NL"
mode_word CR = codes "CR"
mode_word CW = codes "CW"
mode_word PR = codes "PR"
mode_word PW = codes "PW"
mode_word EX = codes "EX"

-- the word of a message's kind, or the number of one that isn't known
abbrev pub kind_word : ℕ → List ℕ
kind_word kind =
    if kind == 0 then codes "metadata-updated"
    else if kind == 1 then codes "resyncing"
    else if kind == 2 then codes "newdisk"
    else if kind == 3 then codes "remove"
    else if kind == 4 then codes "re-add"
    else if kind == 5 then codes "bitmap-needs-sync"
    else if kind == 6 then codes "change-capacity"
    else decimal kind

-- a number below 1000 in three digits
abbrev pub three_digits : ℕ → List ℕ
three_digits n = (48 + n / 100) ∷ (48 + n / 10 % 10) ∷ (48 + n % 10) ∷ []

abbrev pub res_word : Res → List ℕ
res_word (Bitmap n) = codes "bitmap" ++ three_digits n
res_word Token = codes "token"
res_word Message = codes "message"
res_word Ack = codes "ack"
res_word NoNewDev = codes "no-new-dev"
res_word Resync = codes "resync"

abbrev pub part_word : Part → List ℕ
part_word parts.State = codes "state"
part_word parts.Sender = codes "sender"
part_word parts.Receiver = codes "receiver"
part_word parts.Copy = codes "copy"
part_word parts.Recovery = codes "recovery"
part_word parts.Addition = codes "addition"

abbrev pub phase_word : Word → List ℕ
phase_word phases.Out = codes "out"
phase_word phases.Joining = codes "joining"
phase_word phases.Loaded = codes "loaded"
phase_word phases.Up = codes "up"
phase_word phases.Idle = codes "idle"
phase_word phases.TokenAsked = codes "token-asked"
phase_word phases.TokenHeld = codes "token-held"
phase_word phases.MessageAsked = codes "message-asked"
phase_word phases.MessageHeld = codes "message-held"
phase_word phases.Offered = codes "offered"
phase_word phases.Published = codes "published"
phase_word phases.Granted = codes "granted"
phase_word phases.Taken = codes "taken"
phase_word phases.Waiting = codes "waiting"
phase_word phases.Ready = codes "ready"
phase_word phases.Nothing = codes "none"
phase_word phases.Asked = codes "asked"
phase_word phases.Held = codes "held"
phase_word phases.Pass = codes "pass"
phase_word phases.Window = codes "window"
phase_word phases.Buffer = codes "buffer"
phase_word phases.Open = codes "open"
phase_word phases.Announced = codes "announced"
phase_word phases.Removing = codes "removing"
phase_word phases.ReAdd = codes "readd"
phase_word phases.Again = codes "again"

abbrev pub role_word : Role → List ℕ
role_word Working = codes "working"
role_word Rebuilding = codes "rebuilding"
role_word Faulty = codes "faulty"
role_word Spare = codes "spare"
