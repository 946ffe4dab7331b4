-- The facilities, their codes and their short names (RFC 5424, 6.2.1, table 1).
use Rattle.std.specs.Prelude.{◌≢◌, ℕ, List, codes}
use Rattle.syslog_value.specs.declared.facility.Facility.{Facility}
use Rattle.syslog_value.specs.declared.facility.Facility.TheVariants.{Kern, User, Mail, Daemon, Auth, Syslog, Lpr, News}
use Rattle.syslog_value.specs.declared.facility.Facility.TheVariants.{Uucp, Cron, AuthPriv, Ftp, Ntp, Audit, Alert}
use Rattle.syslog_value.specs.declared.facility.Facility.TheVariants.{Clock, Local0, Local1, Local2, Local3, Local4}
use Rattle.syslog_value.specs.declared.facility.Facility.TheVariants.{Local5, Local6, Local7}

abbrev pub facility_code : Facility → ℕ
facility_code Kern = 0
facility_code User = 1
facility_code Mail = 2
facility_code Daemon = 3
facility_code Auth = 4
facility_code Syslog = 5
facility_code Lpr = 6
facility_code News = 7
facility_code Uucp = 8
facility_code Cron = 9
facility_code AuthPriv = 10
facility_code Ftp = 11
facility_code Ntp = 12
facility_code Audit = 13
facility_code Alert = 14
facility_code Clock = 15
facility_code Local0 = 16
facility_code Local1 = 17
facility_code Local2 = 18
facility_code Local3 = 19
facility_code Local4 = 20
facility_code Local5 = 21
facility_code Local6 = 22
facility_code Local7 = 23

abbrev pub facility_name : Facility → List ℕ
facility_name Kern = codes "kern"
facility_name User = codes "user"
facility_name Mail = codes "mail"
facility_name Daemon = codes "daemon"
facility_name Auth = codes "auth"
facility_name Syslog = codes "syslog"
facility_name Lpr = codes "lpr"
facility_name News = codes "news"
facility_name Uucp = codes "uucp"
facility_name Cron = codes "cron"
facility_name AuthPriv = codes "authpriv"
facility_name Ftp = codes "ftp"
facility_name Ntp = codes "ntp"
facility_name Audit = codes "audit"
facility_name Alert = codes "alert"
facility_name Clock = codes "clock"
facility_name Local0 = codes "local0"
facility_name Local1 = codes "local1"
facility_name Local2 = codes "local2"
facility_name Local3 = codes "local3"
facility_name Local4 = codes "local4"
facility_name Local5 = codes "local5"
facility_name Local6 = codes "local6"
facility_name Local7 = codes "local7"

-- the text names no facility
abbrev pub IsNoFacilityName : List ℕ → Type 0
IsNoFacilityName text = (facility : Facility) → facility_name facility ≢ text
