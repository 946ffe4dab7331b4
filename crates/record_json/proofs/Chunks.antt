-- Base64 chunk by chunk.
use Rattle.std.proofs.Common.{◌≡◌, ℕ, ◌≤◌, ◌%◌, List, [], ◌++◌, length, take, drop, refl, sym, ap, ◌∙◌, append_assoc}
use Rattle.std.specs.Prelude.{Result, Ok, Err}
use Rattle.std.proofs.lemmas.List.{append-nil, length-take-le, take-append-drop, take_at}
use Rattle.base64.specs.Engines.{standard}
use Rattle.base64.specs.GeneralPurpose.{IsEncodedOver, encode_of, encoded_size_of}
use Rattle.base64.proofs.Encoding.{length_written}
use Rattle.base64.proofs.EngineFacts.{encode_of-append}
use Rattle.json.specs.Print.{escape}
use Rattle.octet_language.specs.Language.{Only}
use Rattle.syslog_fields.specs.Appending.{Anything, Adds, Puts}
use Rattle.syslog_fields.proofs.Appends.{adds_some}
use Rattle.record_json.proofs.Escaping.{escape-append}

-- what was written of octets, and what is left of them
pub record Encodes (octets rest old out : List ℕ) : Type 0 where
  pub done : List ℕ
  pub parts : out ≡ old ++ done
  pub is : escape (encode_of standard octets) ≡ done ++ escape (encode_of standard rest)

pub encodes_all : (octets old : List ℕ) → Encodes octets octets old old
encodes_all octets old = record { done = []; parts = sym (append-nil old); is = refl }

pub encodes_more : (octets rest chunk behind old out mid : List ℕ) (n : ℕ) → n % 3 ≡ 0 → n ≤ length rest
    → chunk ≡ take n rest → behind ≡ drop n rest → Encodes octets rest old out
    → Adds (Only (escape (encode_of standard chunk))) out mid → Encodes octets behind old mid
encodes_more octets rest chunk behind old out mid n whole fits c b e (x, xs, xe) =
    let count : length chunk % 3 ≡ 0 = rw (c, length-take-le n rest fits) whole in
    let parts : rest ≡ chunk ++ behind = sym (take-append-drop n rest) ∙ rw (c, b) refl in
    record {
      done = e.done ++ x;
      parts = xe ∙ ap (λ (t : List ℕ). t ++ x) e.parts ∙ append_assoc old e.done x;
      is = e.is ∙ ap (λ (t : List ℕ). e.done ++ t)
          (ap (λ (t : List ℕ). escape (encode_of standard t)) parts
          ∙ ap escape (encode_of-append standard chunk behind count)
          ∙ escape-append (encode_of standard chunk) (encode_of standard behind)
          ∙ ap (λ (t : List ℕ). t ++ escape (encode_of standard behind)) (sym xs))
          ∙ sym (append_assoc e.done x (escape (encode_of standard behind)));
    }

pub encodes_end : {X E : Type 0} (octets rest old out new : List ℕ) (r : Result X E) → Encodes octets rest old out
    → Puts (Only (escape (encode_of standard rest))) out new r
    → Puts (Only (escape (encode_of standard octets))) old new r
encodes_end octets rest old out new (Ok x) e (t, ts, te) = (
  escape (encode_of standard octets),
  refl,
  te ∙ ap (λ (s : List ℕ). s ++ t) e.parts ∙ append_assoc old e.done t
      ∙ ap (λ (s : List ℕ). old ++ s) (ap (λ (s : List ℕ). e.done ++ s) ts ∙ sym e.is),
)
encodes_end octets rest old out new (Err x) e a =
    adds_some Anything Anything old out new (e.done, tt, e.parts) a

-- the front of the room is the encoding
pub encoded_front : (m old new : List ℕ) (n : ℕ) → n ≡ encoded_size_of standard (length m) → n ≤ length old
    → length new ≡ length old → IsEncodedOver standard m old new → take n new ≡ encode_of standard m
encoded_front m old new n e fits same over =
    let count : length (encode_of standard m) ≡ n =
    length_written (encode_of standard m) old new n (over ∙ ap (λ (k : ℕ). encode_of standard m ++ drop k old) (sym e))
    same fits in
    ap (take n) over ∙ take_at (encode_of standard m) (drop (encoded_size_of standard (length m)) old) n count
