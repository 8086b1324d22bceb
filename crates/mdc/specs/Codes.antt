-- The exit status of each answer.
use Rattle.std.specs.Prelude.{ℕ}
use Rattle.script_play.specs.declared.running.RunEnd.{RunEnd}
use Rattle.script_play.specs.declared.running.RunEnd.TheVariants as ends
use Rattle.image_ends.specs.declared.ends.CommandEnd.{CommandEnd}
use Rattle.image_ends.specs.declared.ends.CommandEnd.TheVariants as commands
use Rattle.image_play.specs.declared.ends.ImagesEnd.{ImagesEnd}
use Rattle.image_play.specs.declared.ends.ImagesEnd.TheVariants as images
use Rattle.mdc.specs.declared.status.Status.{Status}
use Rattle.mdc.specs.declared.status.Status.TheVariants.{Done, Usage, Script, Image, ReadFault, WriteFault, Shelf, Memory, TraceFull}

abbrev pub code_of : Status → ℕ
code_of Done = 0
code_of Usage = 2
code_of (Script fault) = 3
code_of (Image l fault) = 4
code_of ReadFault = 5
code_of WriteFault = 6
code_of (Shelf l) = 7
code_of Memory = 8
code_of TraceFull = 9

-- the answer by how the lines ran
abbrev pub status_of : RunEnd → Status
status_of ends.Done = Done
status_of ends.Write = WriteFault
status_of ends.Memory = Memory
status_of ends.TraceFull = TraceFull

-- the answer by how a command on images ended
abbrev pub command_status : CommandEnd → Status
command_status commands.Done = Done
command_status (commands.Image l fault) = Image l fault
command_status (commands.Shelf l) = Shelf l
command_status (commands.ShelfTo l) = Shelf l
command_status commands.Write = WriteFault
command_status commands.Memory = Memory

-- the answer by how a script over images ended
abbrev pub images_status : ImagesEnd → Status
images_status images.Done = Done
images_status (images.Image l fault) = Image l fault
images_status (images.Shelf l) = Shelf l
images_status images.Write = WriteFault
images_status images.Memory = Memory
images_status images.TraceFull = TraceFull
