-- What a sender is, and the mask in force (setlogmask(3), syslog(3)).
use Rattle.std.specs.Prelude.{◌≡◌, ℕ, ◌+◌, ◌*◌, ◌/◌, ◌%◌, ◌==◌, ◌⊎◌, if◌then◌else◌, List, Option}
use Rattle.syslog_value.specs.Facilities.{facility_code}
use Rattle.syslog_value.specs.Masks.{Holds}
use Rattle.syslog_value.specs.Severities.{severity_code}
use Rattle.syslog_value.specs.declared.facility.Facility.{Facility}
use Rattle.syslog_value.specs.declared.facility.Facility.TheVariants.{Kern, User}
use Rattle.syslog_value.specs.declared.severity.Severity.{Severity}

-- the words of its records, its facility, and the mask in force
pub record SenderParts : Type 0 where
  pub hostname : Option (List ℕ)
  pub app_name : Option (List ℕ)
  pub proc_id : Option (List ℕ)
  pub facility : Facility
  pub mask : ℕ

-- ---- facilities

-- the facility of a sender that was made with this one: never that of the kernel
abbrev pub own_facility : Facility → Facility
own_facility Kern = User
own_facility facility = facility

-- the priority of a record: one of the kernel's facility, which has the code 0, gets the sender's facility
abbrev pub own_priority : Facility → ℕ → ℕ
own_priority facility priority = if priority / 8 == 0 then facility_code facility * 8 + priority % 8 else priority

-- ---- masks

-- no severity is in the mask
abbrev pub IsEmpty : ℕ → Type 0
IsEmpty mask = (s : Severity) → ¬ Holds mask s

-- the severity of the priority is in the mask
abbrev pub LetsThrough : ℕ → ℕ → Type 0
LetsThrough mask priority = (s : Severity) × (severity_code s ≡ priority % 8) × Holds mask s

-- a mask is set: the empty one changes nothing, and any other is then in force
abbrev pub SetsMask : ℕ → ℕ → ℕ → Type 0
SetsMask old mask new = (IsEmpty mask × (new ≡ old)) ⊎ (¬ (IsEmpty mask) × (new ≡ mask))

-- ---- a new sender

-- made with these words and this facility: every severity is in its mask
pub record IsNew (hostname app_name proc_id : Option (List ℕ)) (facility : Facility) (s : SenderParts) : Type 0 where
  pub hostname_is : s.hostname ≡ hostname
  pub app_name_is : s.app_name ≡ app_name
  pub proc_id_is : s.proc_id ≡ proc_id
  pub facility_is : s.facility ≡ own_facility facility
  pub mask_is : (v : Severity) → Holds s.mask v
