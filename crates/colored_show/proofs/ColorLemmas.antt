-- What is written in colors of a frame is one text.
use Rattle.std.proofs.Common.{◌≡◌, ◌%◌, ℤ, ap, inl, inr, sym, ◌∙◌, true, false}
use Rattle.syslog_value.proofs.Tables.{severity_once}
use Rattle.syslog_value.specs.Parts.{Parts}
use Rattle.syslog_value.specs.Severities.{severity_code}
use Rattle.syslog_legacy.specs.declared.frame_reading.FrameReading.{FrameReading}
use Rattle.driver.specs.Effects.{Done}
use Rattle.frame_engine.specs.Handling.{HasOneOutputEach}
use Rattle.frame_engine.proofs.OutputLemmas.{show_output}
use Rattle.frame_engine.proofs.ReadingLemmas.{not_both, one_record}
use Rattle.colored_show.specs.Handling.{colored_handling}
use Rattle.colored_show.proofs.Once.{painted_same}

pub colored_output : (way : FrameReading) → HasOneOutputEach (colored_handling way)
colored_output way n f a b (p, hp, inl (s, (r, hr, es), ca)) (q, hq, inl (t, (u, hu, et), cb)) =
    let same : r ≡ u = one_record way f r u hr hu in
    let code : severity_code s ≡ severity_code t = es ∙ ap (λ (x : Parts ℤ). x.priority % 8) same ∙ sym et in
    painted_same s t p.output q.output a.output b.output (severity_once s t code) (show_output way n f p q hp hq)
    ca.output cb.output
colored_output way n f a b (p, hp, inl (s, (r, hr, es), ca)) (q, inl (v, hv, text, lines, e), inr (refused, same)) =
    let clash : true ≡ false = sym refused ∙ ap (λ (d : Done). d.refused) e in
    absurd (cc clash)
colored_output way n f a b (p, hp, inl (s, (r, hr, es), ca)) (q, inr (line, hl, e), inr (refused, same)) =
    absurd (not_both way n f r line hl hr)
colored_output way n f a b (p, inl (v, hv, text, lines, e), inr (refused, same)) (q, hq, inl (t, (u, hu, et), cb)) =
    let clash : true ≡ false = sym refused ∙ ap (λ (d : Done). d.refused) e in
    absurd (cc clash)
colored_output way n f a b (p, inr (line, hl, e), inr (refused, same)) (q, hq, inl (t, (u, hu, et), cb)) =
    absurd (not_both way n f u line hl hu)
colored_output way n f a b (p, hp, inr (refused, sp)) (q, hq, inr (refused', sq)) =
    ap (λ (d : Done). d.output) sp ∙ show_output way n f p q hp hq ∙ sym (ap (λ (d : Done). d.output) sq)
