-- Every record has canonical octets.
use Rattle.std.proofs.Common.{ℕ, List, [], ◌∷◌, ◌++◌, refl}
use Rattle.std.specs.Prelude.{ℤ, Option, Some, None, IfSome}
use Rattle.syslog_value.specs.Parts.{IsInstant, IsRecord, Parts}
use Rattle.syslog_fields.specs.Canonical.{Canonical, HeaderForm, SpacedWord, TimeForm, civil_text, message_form}
use Rattle.syslog_fields.specs.Canonical.{priority_version_form, structured_data_form, word_form}
use Rattle.archive_laws.proofs.Civils.{civil_of}

time_text : (t : Option ℤ) → IfSome t IsInstant → (b : List ℕ) × TimeForm t b
time_text None h = (45 ∷ [], refl)
time_text (Some z) h = let c = civil_of z h in (civil_text c.civil, (c.civil, c.exists, c.names, refl))

word_text : Option (List ℕ) → List ℕ
word_text w = word_form w ++ 32 ∷ []

spaced : (w : Option (List ℕ)) → SpacedWord w (word_text w)
unfolding word_text
spaced w = (word_form w, 32 ∷ [], refl, refl, refl)

header_text : (r : Parts ℤ) (time : List ℕ) → List ℕ
header_text r time =
    priority_version_form r.priority ++ ((time ++ 32 ∷ [])
    ++ (word_text r.hostname ++ (word_text r.app_name ++ (word_text r.proc_id ++ word_text r.msg_id))))

header : (r : Parts ℤ) (time : List ℕ) → TimeForm r.time time
    → HeaderForm r.priority r.time r.hostname r.app_name r.proc_id r.msg_id (header_text r time)
unfolding HeaderForm header_text
header r time h =
    let behind_app_name = word_text r.proc_id ++ word_text r.msg_id in
    let behind_hostname = word_text r.app_name ++ behind_app_name in
    let words = word_text r.hostname ++ behind_hostname in (
      priority_version_form r.priority,
      (time ++ 32 ∷ []) ++ words,
      refl,
      refl,
      (
        time ++ 32 ∷ [],
        words,
        refl,
        (time, 32 ∷ [], refl, h, refl),
        (
          word_text r.hostname,
          behind_hostname,
          refl,
          spaced r.hostname,
          (
            word_text r.app_name,
            behind_app_name,
            refl,
            spaced r.app_name,
            (word_text r.proc_id, word_text r.msg_id, refl, spaced r.proc_id, spaced r.msg_id),
          ),
        ),
      ),
    )

pub canonical_octets : (r : Parts ℤ) → IsRecord r → (b : List ℕ) × Canonical r b
canonical_octets r h =
    let time = time_text r.time h.time in
    let behind = structured_data_form r.elements ++ message_form r.message in (
      header_text r time.0 ++ behind,
      (
        header_text r time.0,
        behind,
        refl,
        header r time.0 time.1,
        (structured_data_form r.elements, message_form r.message, refl, refl, refl),
      ),
    )
