-- Tests whether two values mean the same.
use Rattle.std.specs.Prelude.{ℤ, Bool, true, false, nat_eq}
use Rattle.std.specs.Cmp.Lexicographic.{pointwise}
use Rattle.std.specs.Option.{option_eq}
use Rattle.std.specs.Ordering.{on, eq_of_both, int_eq}
use Rattle.std.proofs.Math.Bool.{beq}
use Rattle.std.specs.Str.{bytes_eq}
use Rattle.syslog_value.specs.Parts.{ParamParts, ElementParts, MessageParts, AnyOctets, Utf8Text, Parts}
use Rattle.syslog_value.specs.Messages.{message_octets}

unfoldable pub param_eq : ParamParts → ParamParts → Bool
param_eq = eq_of_both (on (λ p. p.name) bytes_eq) (on (λ p. p.value) bytes_eq)

unfoldable pub element_eq : ElementParts → ElementParts → Bool
element_eq = eq_of_both (on (λ e. e.id) bytes_eq) (on (λ e. e.params) (pointwise param_eq))

abbrev pub is_marked : MessageParts → Bool
is_marked (AnyOctets octets) = false
is_marked (Utf8Text text) = true

unfoldable pub message_eq : MessageParts → MessageParts → Bool
message_eq = eq_of_both (on is_marked beq) (on message_octets bytes_eq)

unfoldable pub words_eq : Parts ℤ → Parts ℤ → Bool
words_eq =
    eq_of_both (on (λ r. r.hostname) (option_eq bytes_eq))
    (eq_of_both (on (λ r. r.app_name) (option_eq bytes_eq))
    (eq_of_both (on (λ r. r.proc_id) (option_eq bytes_eq)) (on (λ r. r.msg_id) (option_eq bytes_eq))))

unfoldable pub record_eq : Parts ℤ → Parts ℤ → Bool
record_eq =
    eq_of_both (on (λ r. r.priority) nat_eq)
    (eq_of_both (on (λ r. r.time) (option_eq int_eq))
    (eq_of_both words_eq
    (eq_of_both (on (λ r. r.elements) (pointwise element_eq)) (on (λ r. r.message) message_eq))))
