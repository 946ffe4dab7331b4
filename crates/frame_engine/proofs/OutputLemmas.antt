-- What `check` and `show` write of a frame is one text.
use Rattle.std.proofs.Common.{◌≡◌, ℕ, ℤ, ◌+◌, ◌*◌, ◌<◌, List, Option, codes, sym, ap, ap₂, subst, ◌∙◌}
use Rattle.std.proofs.Common.{arith, inl, inr}
use Rattle.std.specs.List.{flat_map}
use Rattle.octet_language.specs.Language.{Language, Only, ◌⋅◌}
use Rattle.syslog_value.proofs.Tables.{severity_code-lt, facility_once, severity_once}
use Rattle.syslog_value.specs.Facilities.{facility_code}
use Rattle.syslog_value.specs.Severities.{severity_code}
use Rattle.syslog_value.specs.Parts.{Parts}
use Rattle.syslog_legacy.specs.declared.frame_reading.FrameReading.{FrameReading}
use Rattle.frame_engine.specs.Checked.{check_handling}
use Rattle.driver.specs.Effects.{Done}
use Rattle.frame_engine.specs.Handling.{HasOneOutputEach}
use Rattle.frame_engine.specs.Line.{line_text}
use Rattle.frame_engine.proofs.ReadingLemmas.{not_both, one_line, one_record}
use Rattle.frame_engine.specs.Showing.{PriorityLine, RecordLines, TimeLine, element_lines, line_of, message_line}
use Rattle.frame_engine.specs.Showing.{number_line, priority_line, show_handling, word_lines}
use Rattle.frame_engine.specs.ShowingJson.{show_json_handling}
use Rattle.record_json.specs.Objects.{JsonLine}
use Rattle.record_json.proofs.LineLaws.{line_once}
use Rattle.syslog_fields.proofs.CanonicalTexts.{time_once}
use Rattle.octet_language.proofs.Sequence.{once, only_once}

abbrev output_of : Done → List ℕ
output_of d = d.output

pub check_output : (way : FrameReading) → HasOneOutputEach (check_handling way)
check_output way n f a b (inl (h, e)) (inl (k, g)) = ap output_of (e ∙ sym g)
check_output way n f a b (inl ((r, h), e)) (inr (line, k, g)) = absurd (not_both way n f r line k h)
check_output way n f a b (inr (line, k, e)) (inl ((r, h), g)) = absurd (not_both way n f r line k h)
check_output way n f a b (inr (l, h, e)) (inr (m, k, g)) =
    ap output_of e ∙ ap line_text (one_line way n f l m h k) ∙ sym (ap output_of g)

-- ---- the lines of a record

same_facility : (f g s t : ℕ) → f * 8 + s ≡ g * 8 + t → s < 8 → t < 8 → f ≡ g
same_facility f g s t e h k = omega arith

priority_line_once : (v : ℕ) (b c : List ℕ) → PriorityLine v b → PriorityLine v c → b ≡ c
priority_line_once v b c (f, s, e, h) (g, t, e', k) =
    let codes : facility_code f * 8 + severity_code s ≡ facility_code g * 8 + severity_code t = sym e ∙ e' in
    let facility : facility_code f ≡ facility_code g =
    same_facility _ _ _ _ codes (severity_code-lt s) (severity_code-lt t) in
    let severity : severity_code s ≡ severity_code t = omega (arith, codes, facility) in
    h ∙ ap₂ (priority_line v) (facility_once f g facility) (severity_once s t severity) ∙ sym k

time_line_once : (i : Option ℤ) (b c : List ℕ) → TimeLine i b → TimeLine i c → b ≡ c
time_line_once i b c (s, h, e) (t, k, g) = e ∙ ap (line_of (codes "time")) (time_once i s t h k) ∙ sym g

record_lines_once : (n : ℕ) (r : Parts ℤ) (b c : List ℕ) → RecordLines n r b → RecordLines n r c → b ≡ c
unfolding RecordLines
record_lines_once n r b c h k =
    let words : Language = Only (word_lines r) in
    let elements : Language = Only (flat_map element_lines r.elements) in
    let message : Language = Only (message_line r.message) in
    once (Only (number_line n)) (PriorityLine r.priority ⋅ TimeLine r.time ⋅ words ⋅ elements ⋅ message) b c
    (only_once (number_line n))
    (λ s t. once (PriorityLine r.priority) (TimeLine r.time ⋅ words ⋅ elements ⋅ message) s t
    (priority_line_once r.priority)
    (λ s t. once (TimeLine r.time) (words ⋅ elements ⋅ message) s t (time_line_once r.time)
    (λ s t. once words (elements ⋅ message) s t (only_once (word_lines r))
    (λ s t. once elements message s t (only_once (flat_map element_lines r.elements))
    (only_once (message_line r.message)))))) h k

pub show_output : (way : FrameReading) → HasOneOutputEach (show_handling way)
show_output way n f a b (inl (r, h, s, lines, e)) (inl (q, k, t, lines', g)) =
    let same : r ≡ q = one_record way f r q h k in
    ap output_of e ∙ record_lines_once n q s t (subst (λ (x : Parts ℤ). RecordLines n x s) same lines) lines'
    ∙ sym (ap output_of g)
show_output way n f a b (inl (r, h, s, lines, e)) (inr (line, k, g)) = absurd (not_both way n f r line k h)
show_output way n f a b (inr (line, k, e)) (inl (r, h, s, lines, g)) = absurd (not_both way n f r line k h)
show_output way n f a b (inr (l, h, e)) (inr (m, k, g)) = ap output_of e ∙ sym (ap output_of g)

-- ---- the line of JSON

pub show_json_output : (way : FrameReading) → HasOneOutputEach (show_json_handling way)
show_json_output way n f a b (inl (r, h, s, line, e)) (inl (q, k, t, line', g)) =
    let same = one_record way f r q h k in
    ap output_of e ∙ line_once q s t (subst (λ (x : Parts ℤ). JsonLine x s) same line) line' ∙ sym (ap output_of g)
show_json_output way n f a b (inl (r, h, s, line, e)) (inr (other, k, g)) = absurd (not_both way n f r other k h)
show_json_output way n f a b (inr (other, k, e)) (inl (r, h, s, line, g)) = absurd (not_both way n f r other k h)
show_json_output way n f a b (inr (l, h, e)) (inr (m, k, g)) = ap output_of e ∙ sym (ap output_of g)
