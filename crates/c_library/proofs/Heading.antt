-- The fields before the structured data, by their spans.
use Rattle.std.proofs.Common.{◌≡◌, ℕ, ◌+◌, ◌-◌, ◌≤◌, List, [], ◌∷◌, ◌++◌, length, refl, sym, ap, subst, ◌∙◌, append_assoc}
use Rattle.std.proofs.Common.{arith}
use Rattle.std.specs.Prelude.{decimal}
use Rattle.std.proofs.lemmas.List.{length-append}
use Rattle.octet_language.specs.Reading.{Follows}
use Rattle.syslog_value.specs.Parts.{ElementParts}
use Rattle.syslog_fields.specs.Canonical.{word_form}
use Rattle.syslog_fields.specs.Grammar.{MessagePart, Nilable, Priority}
use Rattle.syslog_fields.specs.Time.{TimeText}
use Rattle.syslog_fields.proofs.Numbers.{IsPrefixFree-priority}
use Rattle.syslog_reading.specs.ShownParts.{BeforeWords}
use Rattle.syslog_reading.specs.ViewParts.{IsViewOf, ViewParts}
use Rattle.c_library.specs.Parts.{IsLayout}
use Rattle.c_library.specs.PartSpans.{IsHeaderShown, ShowsElements, field_spans, header_fields, marked, part_span}
use Rattle.c_library.specs.declared.layout.Layout.{Layout}
use Rattle.c_library.specs.declared.part.SyslogboxPartSpan.{SyslogboxPartSpan}
use Rattle.c_library.proofs.Laying.{Behind, behind_form, spaced}

-- where PRI comes first, another reader of it leaves as many octets
pub priority_end : (b rest behind : List ℕ) (v w : ℕ) → Follows (Priority v) b rest → Follows (Priority w) b behind
    → length rest ≡ length behind
priority_end b rest behind v w (x, e, h) (y, f, k) =
    let same : x ≡ y = IsPrefixFree-priority x rest y behind (v, h) (w, k) (sym e ∙ f) in
    omega (arith, ap length e, ap length f, ap length same, length-append x rest, length-append y behind)

step : (m : ℕ) (x w t s : List ℕ) → w ++ t ≡ s → (m ∷ (x ++ w)) ++ t ≡ m ∷ (x ++ s)
step m x w t s e = ap (λ (u : List ℕ). m ∷ u) (append_assoc x w t ∙ ap (λ (u : List ℕ). x ++ u) e)

word_step : (x b s : List ℕ) → b ≡ s → (x ++ 32 ∷ []) ++ b ≡ x ++ 32 ∷ s
word_step x b s e = append_assoc x (32 ∷ []) b ∙ ap (λ (u : List ℕ). x ++ 32 ∷ u) e

-- the marked fields and what follows them, one behind the other
marked_joined : (dec time host app proc msg t : List ℕ)
    → marked ((60, dec) ∷ (62, 49 ∷ []) ∷ (32, time) ∷ (32, host) ∷ (32, app) ∷ (32, proc) ∷ (32, msg) ∷ []) ++ t
    ≡ 60 ∷ (dec ++ 62 ∷ 49 ∷ 32 ∷ (time ++ 32 ∷ (host ++ 32 ∷ (app ++ 32 ∷ (proc ++ 32 ∷ (msg ++ t))))))
marked_joined dec time host app proc msg t =
    let w4 : List ℕ = 32 ∷ (msg ++ []) in
    let w3 : List ℕ = 32 ∷ (proc ++ w4) in
    let w2 : List ℕ = 32 ∷ (app ++ w3) in
    let w1 : List ℕ = 32 ∷ (host ++ w2) in
    let s4 : List ℕ = 32 ∷ (msg ++ t) in
    let s3 : List ℕ = 32 ∷ (proc ++ s4) in
    let s2 : List ℕ = 32 ∷ (app ++ s3) in
    let s1 : List ℕ = 32 ∷ (host ++ s2) in
    step 60 dec (62 ∷ 49 ∷ 32 ∷ (time ++ w1)) t (62 ∷ 49 ∷ 32 ∷ (time ++ s1))
    (step 62 (49 ∷ []) (32 ∷ (time ++ w1)) t (32 ∷ (time ++ s1))
    (step 32 time w1 t s1 (step 32 host w2 t s2 (step 32 app w3 t s3 (step 32 proc w4 t s4 (step 32 msg [] t t refl))))))

header_joined : (b x pri rest a1 a2 dec gt ver tm va vb time sp behind host app proc msg els end : List ℕ)
    → b ≡ x ++ behind → x ≡ pri ++ rest → pri ≡ a1 ++ a2 → a1 ≡ 60 ∷ [] → a2 ≡ dec ++ gt → gt ≡ 62 ∷ []
    → rest ≡ ver ++ tm → ver ≡ va ++ vb → va ≡ 49 ∷ [] → vb ≡ 32 ∷ [] → tm ≡ time ++ sp → sp ≡ 32 ∷ []
    → behind ≡ (host ++ 32 ∷ []) ++ ((app ++ 32 ∷ []) ++ ((proc ++ 32 ∷ []) ++ ((msg ++ 32 ∷ []) ++ (els ++ end))))
    → b ≡ marked ((60, dec) ∷ (62, 49 ∷ []) ∷ (32, time) ∷ (32, host) ∷ (32, app) ∷ (32, proc) ∷ (32, msg) ∷ [])
    ++ 32 ∷ (els ++ end)
header_joined b x pri rest a1 a2 dec gt ver tm va vb time sp behind host app proc msg els end e0 e1 e2 e3 e4 e5 e6 e7 e8
    e9 e10 e11 e12 =
    let t : List ℕ = 32 ∷ (els ++ end) in
    let s3 : List ℕ = proc ++ 32 ∷ (msg ++ t) in
    let s2 : List ℕ = app ++ 32 ∷ s3 in
    let s1 : List ℕ = host ++ 32 ∷ s2 in
    let words : behind ≡ s1 =
    e12 ∙ word_step host _ s2 (word_step app _ s3 (word_step proc _ (msg ++ t) (word_step msg _ (els ++ end) refl))) in
    let r : List ℕ = 49 ∷ 32 ∷ (time ++ 32 ∷ []) in
    let front : x ≡ (60 ∷ (dec ++ 62 ∷ [])) ++ r = rw (e1, e2, e3, e4, e5, e6, e7, e8, e9, e10, e11) refl in
    e0
    ∙ ap (λ (u : List ℕ). u ++ behind) (front ∙ step 60 dec (62 ∷ []) r (62 ∷ r) refl)
    ∙ step 60 dec (62 ∷ r) behind (62 ∷ 49 ∷ 32 ∷ (time ++ 32 ∷ s1))
    (step 62 (49 ∷ []) (32 ∷ (time ++ 32 ∷ [])) behind (32 ∷ (time ++ 32 ∷ s1))
    (step 32 time (32 ∷ []) behind (32 ∷ s1) (ap (λ (u : List ℕ). 32 ∷ u) words)))
    ∙ sym (marked_joined dec time host app proc msg t)

-- the lengths of the fields, and where each begins
record Places (dec time host app proc msg : List ℕ) (v a1 a2 a3 a4 a5 : ℕ) : Type 0 where
  pri : v ≡ length dec + 2
  one : a1 ≡ v + 3 + length time
  two : a2 ≡ a1 + length host + 1
  three : a3 ≡ a2 + length app + 1
  four : a4 ≡ a3 + length proc + 1
  five : a5 ≡ a4 + length msg + 1

same_part : (part at len p a l : ℕ) → part ≡ p → at ≡ a → len ≡ l → part_span part at len ≡ part_span p a l
same_part part at len p a l e f g = rw (e, f, g) refl

both : (x y : SyslogboxPartSpan) (xs ys : List SyslogboxPartSpan) → x ≡ y → xs ≡ ys → x ∷ xs ≡ y ∷ ys
both x y xs ys e f = rw (e, f) refl

seven : (dec time host app proc msg : List ℕ) (v a1 a2 a3 a4 a5 : ℕ) (x1 x2 x3 x4 x5 x6 x7 : SyslogboxPartSpan)
    → Places dec time host app proc msg v a1 a2 a3 a4 a5
    → x1 ≡ part_span 1 1 (v - 2) → x2 ≡ part_span 2 v 1 → x3 ≡ part_span 3 (v + 2) (a1 - (v + 2) - 1)
    → x4 ≡ part_span 4 a1 (a2 - a1 - 1) → x5 ≡ part_span 5 a2 (a3 - a2 - 1) → x6 ≡ part_span 6 a3 (a4 - a3 - 1)
    → x7 ≡ part_span 7 a4 (a5 - a4 - 1)
    → x1 ∷ x2 ∷ x3 ∷ x4 ∷ x5 ∷ x6 ∷ x7 ∷ []
    ≡ field_spans 1 0
    ((60, dec) ∷ (62, 49 ∷ []) ∷ (32, time) ∷ (32, host) ∷ (32, app) ∷ (32, proc) ∷ (32, msg) ∷ [])
seven dec time host app proc msg v a1 a2 a3 a4 a5 x1 x2 x3 x4 x5 x6 x7 h e1 e2 e3 e4 e5 e6 e7 =
    both _ _ _ _ (e1 ∙ same_part _ _ _ _ _ _ (omega arith) (omega arith) (omega (arith, h.pri)))
    (both _ _ _ _ (e2 ∙ same_part _ _ _ _ _ _ (omega arith) (omega (arith, h.pri)) (omega arith))
    (both _ _ _ _ (e3 ∙ same_part _ _ _ _ _ _ (omega arith) (omega (arith, h.pri)) (omega (arith, h.pri, h.one)))
    (both _ _ _ _ (e4 ∙ same_part _ _ _ _ _ _ (omega arith) (omega (arith, h.pri, h.one)) (omega (arith, h.two)))
    (both _ _ _ _
    (e5 ∙ same_part _ _ _ _ _ _ (omega arith) (omega (arith, h.pri, h.one, h.two)) (omega (arith, h.three)))
    (both _ _ _ _
    (e6 ∙ same_part _ _ _ _ _ _ (omega arith) (omega (arith, h.pri, h.one, h.two, h.three)) (omega (arith, h.four)))
    (both _ _ _ _
    (e7
    ∙ same_part _ _ _ _ _ _ (omega arith) (omega (arith, h.pri, h.one, h.two, h.three, h.four)) (omega (arith, h.five)))
    refl))))))

-- where PRI ends and the words begin, by the texts before them
front_places : (b behind x pri rest a1 a2 dec gt ver tm va vb time sp : List ℕ) (v at : ℕ) → b ≡ x ++ behind
    → x ≡ pri ++ rest → pri ≡ a1 ++ a2 → a1 ≡ 60 ∷ [] → a2 ≡ dec ++ gt → gt ≡ 62 ∷ [] → rest ≡ ver ++ tm
    → ver ≡ va ++ vb → va ≡ 49 ∷ [] → vb ≡ 32 ∷ [] → tm ≡ time ++ sp → sp ≡ 32 ∷ []
    → v + length (rest ++ behind) ≡ length b → at ≡ length b - length behind
    → (v ≡ length dec + 2) × (at ≡ v + 3 + length time)
front_places b behind x pri rest a1 a2 dec gt ver tm va vb time sp v at e0 e1 e2 e3 e4 e5 e6 e7 e8 e9 e10 e11 f g =
    let total : length b ≡ length pri + length rest + length behind =
    omega (arith, ap length e0, length-append x behind, ap length e1, length-append pri rest) in
    let pri_len : length pri ≡ length dec + 2 =
    omega (arith, ap length e2, ap length e3, ap length e4, ap length e5, length-append a1 a2, length-append dec gt) in
    let rest_len : length rest ≡ 3 + length time =
    omega (
      arith,
      ap length e6,
      length-append ver tm,
      ap length e7,
      length-append va vb,
      ap length e8,
      ap length e9,
      ap length e10,
      length-append time sp,
      ap length e11,
    ) in (
      omega (arith, total, pri_len, f, length-append rest behind),
      omega (arith, total, rest_len, f, g, length-append rest behind),
    )

pub header_room : (b : List ℕ) (s : ViewParts) (v at : ℕ) → at ≡ length b - length s.behind_time
    → ((w : ℕ) (rest : List ℕ) → Follows (Priority w) b rest → v + length rest ≡ length b) → IsViewOf b s
    → (2 ≤ v) × (v + 3 ≤ at) × (at ≤ length b)
header_room b s v at is first (p, text, inside, distinct, h) = go h.lies
  where
    go : Follows (BeforeWords p) b s.behind_time → (2 ≤ v) × (v + 3 ≤ at) × (at ≤ length b)
    go (
      x,
      e0,
      (
        pri,
        rest,
        e1,
        (a1, a2, e2, e3, (dec, gt, e4, num, e5)),
        (ver, tm, e6, (va, vb, e7, e8, e9), (time, sp, e10, ht, e11)),
      ),
    ) =
        let pv = first p.priority (rest ++ s.behind_time) (
          pri,
          e0 ∙ ap (λ (u : List ℕ). u ++ s.behind_time) e1 ∙ append_assoc pri rest s.behind_time,
          (a1, a2, e2, e3, (dec, gt, e4, num, e5)),
        ) in
        let f = front_places b s.behind_time x pri rest a1 a2 dec gt ver tm va vb time sp v at e0 e1 e2 e3 e4 e5 e6 e7 e8
        e9 e10 e11 pv is in
        (omega (arith, f.0), omega (arith, f.1), omega (arith, is))

marked_length : (dec time host app proc msg : List ℕ) (v a1 a2 a3 a4 a5 : ℕ)
    → Places dec time host app proc msg v a1 a2 a3 a4 a5
    → a5 ≡ length (marked ((60, dec) ∷ (62, 49 ∷ []) ∷ (32, time) ∷ (32, host) ∷ (32, app) ∷ (32, proc) ∷ (32, msg) ∷ []))
    + 1
marked_length dec time host app proc msg v a1 a2 a3 a4 a5 h =
    let m4 : List ℕ = 32 ∷ (msg ++ []) in
    let m3 : List ℕ = 32 ∷ (proc ++ m4) in
    let m2 : List ℕ = 32 ∷ (app ++ m3) in
    let m1 : List ℕ = 32 ∷ (host ++ m2) in
    omega (
      arith,
      h.pri,
      h.one,
      h.two,
      h.three,
      h.four,
      h.five,
      length-append dec (62 ∷ 49 ∷ 32 ∷ (time ++ m1)),
      length-append time m1,
      length-append host m2,
      length-append app m3,
      length-append proc m4,
      length-append msg [],
    )

pub header_shown : (b : List ℕ) (s : ViewParts) (l : Layout) (v : ℕ) (x1 x2 x3 x4 x5 x6 x7 : SyslogboxPartSpan)
    → IsLayout b s l
    → ((w : ℕ) (rest : List ℕ) → Follows (Priority w) b rest → v + length rest ≡ length b)
    → x1 ≡ part_span 1 1 (v - 2) → x2 ≡ part_span 2 v 1
    → x3 ≡ part_span 3 (v + 2) (l.hostname - (v + 2) - 1)
    → x4 ≡ part_span 4 l.hostname (l.app_name - l.hostname - 1)
    → x5 ≡ part_span 5 l.app_name (l.proc_id - l.app_name - 1)
    → x6 ≡ part_span 6 l.proc_id (l.msg_id - l.proc_id - 1)
    → x7 ≡ part_span 7 l.msg_id (l.structured_data - l.msg_id - 1)
    → IsHeaderShown b s l.structured_data (x1 ∷ x2 ∷ x3 ∷ x4 ∷ x5 ∷ x6 ∷ x7 ∷ [])
unfolding spaced
header_shown b s l v x1 x2 x3 x4 x5 x6 x7 lay first h1 h2 h3 h4 h5 h6 h7 (p, text, inside, distinct, h) =
    go h.lies
  where
    f : Behind s
    f = behind_form s h.behind_time

    go : Follows (BeforeWords p) b s.behind_time
        → (time_text : List ℕ) × (end_text : List ℕ) × Nilable TimeText p.time time_text
        × MessagePart p.message end_text
        × (b ≡ marked (header_fields p time_text) ++ 32 ∷ (s.elements ++ end_text))
        × (l.structured_data ≡ length (marked (header_fields p time_text)) + 1)
        × (x1 ∷ x2 ∷ x3 ∷ x4 ∷ x5 ∷ x6 ∷ x7 ∷ [] ≡ field_spans 1 0 (header_fields p time_text))
    go (
      x,
      e0,
      (
        pri,
        rest,
        e1,
        (a1, a2, e2, e3, (dec, gt, e4, (le, num), e5)),
        (ver, tm, e6, (va, vb, e7, e8, e9), (time, sp, e10, ht, e11)),
      ),
    ) =
        let d : a2 ≡ decimal p.priority ++ gt = e4 ∙ ap (λ (u : List ℕ). u ++ gt) num in
        let pv = first p.priority (rest ++ s.behind_time) (
          pri,
          e0 ∙ ap (λ (u : List ℕ). u ++ s.behind_time) e1 ∙ append_assoc pri rest s.behind_time,
          (a1, a2, e2, e3, (dec, gt, e4, (le, num), e5)),
        ) in
        let places_of = front_places b s.behind_time x pri rest a1 a2 (decimal p.priority) gt ver tm va vb time sp v
        l.hostname e0 e1 e2 e3 d e5 e6 e7 e8 e9 e10 e11 pv lay.hostname_is in
        let places : Places (decimal p.priority) time (word_form p.hostname) (word_form p.app_name) (word_form p.proc_id)
        (word_form p.msg_id) v l.hostname l.app_name l.proc_id l.msg_id l.structured_data = record {
          pri = places_of.0;
          one = places_of.1;
          two = lay.app_name_is ∙ ap (λ w. l.hostname + length (word_form w) + 1) h.hostname;
          three = lay.proc_id_is ∙ ap (λ w. l.app_name + length (word_form w) + 1) h.app_name;
          four = lay.msg_id_is ∙ ap (λ w. l.proc_id + length (word_form w) + 1) h.proc_id;
          five = lay.structured_data_is ∙ ap (λ w. l.msg_id + length (word_form w) + 1) h.msg_id;
        } in (
          time,
          f.end,
          ht,
          subst (λ m. MessagePart m f.end) h.message f.message,
          header_joined b x pri rest a1 a2 (decimal p.priority) gt ver tm va vb time sp s.behind_time
              (word_form p.hostname) (word_form p.app_name) (word_form p.proc_id) (word_form p.msg_id) s.elements f.end e0
              e1 e2 e3 d e5 e6 e7 e8 e9 e10 e11
              (subst (λ w. s.behind_time
              ≡ spaced p.hostname (spaced p.app_name (spaced p.proc_id (spaced w (s.elements ++ f.end))))) h.msg_id
              (subst (λ w. s.behind_time
              ≡ spaced p.hostname (spaced p.app_name (spaced w (spaced s.msg_id (s.elements ++ f.end))))) h.proc_id
              (subst (λ w. s.behind_time
              ≡ spaced p.hostname (spaced w (spaced s.proc_id (spaced s.msg_id (s.elements ++ f.end))))) h.app_name
              (subst (λ w. s.behind_time
              ≡ spaced w (spaced s.app_name (spaced s.proc_id (spaced s.msg_id (s.elements ++ f.end))))) h.hostname
              f.parts)))),
          marked_length (decimal p.priority) time (word_form p.hostname) (word_form p.app_name) (word_form p.proc_id)
              (word_form p.msg_id) v l.hostname l.app_name l.proc_id l.msg_id l.structured_data places,
          seven (decimal p.priority) time (word_form p.hostname) (word_form p.app_name) (word_form p.proc_id)
              (word_form p.msg_id) v l.hostname l.app_name l.proc_id l.msg_id l.structured_data x1 x2 x3 x4 x5 x6 x7
              places h1 h2 h3 h4 h5 h6 h7,
        )

-- the spans of the elements stay where more octets follow
pub shows_further : (at : ℕ) (es : List ElementParts) (text more : List ℕ) (cs : List SyslogboxPartSpan)
    → ShowsElements at es text cs → ShowsElements at es (text ++ more) cs
shows_further at [] text more cs h = h
shows_further at (e ∷ es) text more cs (params, behind, inner, rest, f, g, ps, sh) = (
  params,
  behind ++ more,
  inner,
  rest,
  ap (λ (u : List ℕ). u ++ more) f ∙ ap (λ (u : List ℕ). 91 ∷ u)
      (append_assoc e.id (params ++ 93 ∷ behind) more
      ∙ ap (λ (u : List ℕ). e.id ++ u) (append_assoc params (93 ∷ behind) more)),
  g,
  ps,
  shows_further (at + (length e.id + length params + 2)) es behind more rest sh,
)
