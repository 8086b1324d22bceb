-- The printed names of the fields.
use Rattle.std.specs.Prelude.{ℕ, List, codes}
use Rattle.md_superblock.specs.declared.faults.Field.{Field}
use Rattle.md_superblock.specs.declared.faults.Field.TheVariants.{Magic, MajorVersion, FeatureMap, ArrayUuid, Name, Level, Size, RaidDisks, BitmapOffset, DataOffset, DataSize, SuperblockOffset, DeviceNumber, DeviceUuid, Events, Checksum, MaxDev, Roles, Rest}

-- the field's name in the table, with dashes for spaces
abbrev pub field_word : Field → List ℕ
field_word Magic = codes "magic"
field_word MajorVersion = codes "major-version"
field_word FeatureMap = codes "feature-map"
field_word ArrayUuid = codes "array-uuid"
field_word Name = codes "name"
field_word Level = codes "level"
field_word Size = codes "size-in-sectors"
field_word RaidDisks = codes "raid-disks"
field_word BitmapOffset = codes "bitmap-offset-in-sectors-from-the-superblock"
field_word DataOffset = codes "data-offset"
field_word DataSize = codes "data-size"
field_word SuperblockOffset = codes "superblock-offset"
field_word DeviceNumber = codes "device-number"
field_word DeviceUuid = codes "device-uuid"
field_word Events = codes "events"
field_word Checksum = codes "checksum"
field_word MaxDev = codes "max_dev"
field_word Roles = codes "eight-roles-of-16-bits"
field_word Rest = codes "rest"
