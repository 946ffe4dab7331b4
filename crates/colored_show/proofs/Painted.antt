-- Texts that are painted line by line.
use Rattle.std.proofs.Common.{◌≡◌, ◌++◌, ◌∙◌, List, [], ◌∷◌, ℕ, ap, append_assoc, refl, sym}
use Rattle.std.specs.List.{flat_map}
use Rattle.syslog_frame.specs.Frames.{IsLine}
use Rattle.syslog_value.specs.declared.severity.Severity.{Severity}
use Rattle.colored_show.specs.Painting.{IsPainted, ended_line, painted_line}

-- a text without a line feed stays as it is
pub no_line : (s : Severity) (text : List ℕ) → IsLine text → IsPainted s text text
no_line s text is = record { lines = []; rest = text; each = tt; last = is; text_is = refl; painted_is = refl }

-- one more line before a text
pub one_line : (s : Severity) (line behind text painted : List ℕ) → IsLine line → text ≡ ended_line line ++ behind
    → IsPainted s behind painted → IsPainted s text (painted_line s line ++ painted)
one_line s line behind text painted is e p = record {
  lines = line ∷ p.lines;
  rest = p.rest;
  each = (is, p.each);
  last = p.last;
  text_is =
      e ∙ ap (λ (x : List ℕ). ended_line line ++ x) p.text_is
      ∙ sym (append_assoc (ended_line line) (flat_map ended_line p.lines) p.rest);
  painted_is =
      ap (λ (x : List ℕ). painted_line s line ++ x) p.painted_is
      ∙ sym (append_assoc (painted_line s line) (flat_map (painted_line s) p.lines) p.rest);
}
