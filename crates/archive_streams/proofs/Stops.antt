-- What a call did that a fault stopped.
use Rattle.std.proofs.Common.{◌≡◌, ℕ, List, Option, take, drop, refl, sym, subst, arith}
use Rattle.std.specs.Io.KnownBytes.{Appends}
use Rattle.std.proofs.lemmas.List.{length-drop, length-take, take-append-drop}
use Rattle.octet_devices.specs.Held.{Carries, Held, StopsWithin}
use Rattle.octet_devices.proofs.Carrying.{StopsWithin-take}
use Rattle.archive_streams.specs.Halted.{Halted, IsNotWrite, IsUnderWay}
use Rattle.archive_streams.specs.Joining.{IsPrefixOfAnyUnion}
use Rattle.octet_devices.specs.Device.{InputState}
use Rattle.archive_streams.specs.Stopped.{IsSent, IsUnsent, Stopped}
use Rattle.archive_streams.specs.declared.fault.MergeFault.{MergeFault}
use Rattle.archive_streams.specs.declared.fault.MergeFault.TheVariants.{Left, Right, Read, Endless, Write, Memory}
use Rattle.archive_streams.proofs.Joining.{short_of_any, shorter_any}

-- the writer took so many octets
pub stopped_sent : (sent : ℕ) (held : Held) (dl el dr er : InputState) (start now : Option (List ℕ))
    → Halted (Write sent) held dl el dr er start now → Stopped (Write sent) dl el dr er start now
stopped_sent sent held dl el dr er start now h =
    let taken = StopsWithin-take start now h.text sent h.under_way h.short in
    record {
      x = h.x;
      y = h.y;
      written = take sent h.text;
      left = h.left;
      right = h.right;
      left_calls = h.left_calls;
      right_calls = h.right_calls;
      taken = taken.1;
      prefix = shorter_any el.left er.left h.x h.y (take sent h.text) (drop sent h.text)
          (subst (IsPrefixOfAnyUnion el.left er.left h.x h.y) (sym (take-append-drop sent h.text)) h.prefix);
      input = tt;
      sent = omega (arith, length-take sent h.text, taken.0);
      unsent = short_of_any el.left er.left h.x h.y (take sent h.text) (drop sent h.text)
          (omega (arith, length-drop sent h.text, taken.0))
          (subst (IsPrefixOfAnyUnion el.left er.left h.x h.y) (sym (take-append-drop sent h.text)) h.prefix);
    }

pub stopped_write : (fault : MergeFault) (sent : ℕ) (held : Held) (dl el dr er : InputState) (start now : Option (List ℕ))
    → fault ≡ Write sent → Halted fault held dl el dr er start now
    → Stopped (Write sent) dl el dr er start now
stopped_write fault sent held dl el dr er start now same h =
    stopped_sent sent held dl el dr er start now
    (subst (λ (f : MergeFault). Halted f held dl el dr er start now) same h)

-- each fault that is not the writer's
pub is_not_write : (fault : MergeFault) → ((sent : ℕ) → fault ≡ Write sent → ⊥) → IsNotWrite fault
is_not_write (Write sent) other = other sent refl
is_not_write (Left fault) other = tt
is_not_write (Right fault) other = tt
is_not_write (Read side) other = tt
is_not_write (Endless side) other = tt
is_not_write Memory other = tt

held_back : (fault : MergeFault) (held : Held) (start now : Option (List ℕ)) (text : List ℕ) → IsNotWrite fault
    → IsUnderWay fault held start now text → Carries start now held text
held_back (Write sent) held start now text other c = absurd other
held_back (Left fault) held start now text other c = c
held_back (Right fault) held start now text other c = c
held_back (Read side) held start now text other c = c
held_back (Endless side) held start now text other c = c
held_back Memory held start now text other c = c

none_sent : (fault : MergeFault) (written : List ℕ) → IsNotWrite fault → IsSent fault written
none_sent (Write sent) written other = absurd other
none_sent (Left fault) written other = tt
none_sent (Right fault) written other = tt
none_sent (Read side) written other = tt
none_sent (Endless side) written other = tt
none_sent Memory written other = tt

none_unsent : (fault : MergeFault) (left right : Option (List ℕ)) (x y written : List ℕ) → IsNotWrite fault
    → IsUnsent fault left right x y written
none_unsent (Write sent) left right x y written other = absurd other
none_unsent (Left fault) left right x y written other = tt
none_unsent (Right fault) left right x y written other = tt
none_unsent (Read side) left right x y written other = tt
none_unsent (Endless side) left right x y written other = tt
none_unsent Memory left right x y written other = tt

-- what is held back is written before a fault is told
pub stopped_whole : (fault : MergeFault) (held : Held) (dl el dr er : InputState) (start now after : Option (List ℕ))
    → IsNotWrite fault → ((text : List ℕ) → Carries start now held text → Appends start after text)
    → Halted fault held dl el dr er start now → Stopped fault dl el dr er start after
stopped_whole fault held dl el dr er start now after other whole h = record {
  x = h.x;
  y = h.y;
  written = h.text;
  left = h.left;
  right = h.right;
  left_calls = h.left_calls;
  right_calls = h.right_calls;
  taken = whole h.text (held_back fault held start now h.text other h.under_way);
  prefix = h.prefix;
  input = h.input;
  sent = none_sent fault h.text other;
  unsent = none_unsent fault el.left er.left h.x h.y h.text other;
}

-- or the writer fails before it is told
pub stopped_before : (fault : MergeFault) (held : Held) (dl el dr er : InputState) (start now after : Option (List ℕ))
    (sent : ℕ) → IsNotWrite fault → ((text : List ℕ) → Carries start now held text → StopsWithin start after text sent)
    → Halted fault held dl el dr er start now → Stopped (Write sent) dl el dr er start after
stopped_before fault held dl el dr er start now after sent other stops h =
    stopped_sent sent held dl el dr er start after (record {
      x = h.x;
      y = h.y;
      text = h.text;
      left = h.left;
      right = h.right;
      left_calls = h.left_calls;
      right_calls = h.right_calls;
      prefix = h.prefix;
      short = h.short;
      under_way = stops h.text (held_back fault held start now h.text other h.under_way);
      input = tt;
    })
