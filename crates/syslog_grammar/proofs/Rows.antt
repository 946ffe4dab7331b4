-- Worked rows of the tables in RFC 5424 and RFC 3629, as theorems of the definitions.
use Rattle.std.proofs.Common.{◌≡◌, ℕ, ◌≤◌, List, [], ◌∷◌, ◌++◌, refl, arith, inl, inr}
use Rattle.std.specs.Prelude.{codes, None, ℤ, pos, negsuc}
use Rattle.std.specs.Fmt.{digits}
use Rattle.octet_language.specs.Language.{Language, Only, ◌⋅◌}
use Rattle.syslog_value.specs.Calendar.{day_number, days_of_years, days_of_months}
use Rattle.syslog_value.specs.Parts.{Parts, AnyOctets}
use Rattle.syslog_fields.specs.Utf8.{IsCharacter}
use Rattle.syslog_fields.specs.Values.{Spells, IsPlain}
use Rattle.syslog_fields.specs.Time.{CivilTime, instant, TimeText, OffsetText}
use Rattle.syslog_fields.specs.Grammar.{Priority, SyslogMsg, Header, header_of}

abbrev at : ℕ → ℕ → ℕ → ℕ → ℕ → ℕ → ℕ → ℤ → CivilTime
at y mo d h mi s us o = record {
  civil = record {
    year = y;
    month = mo;
    day = d;
    hour = h;
    minute = mi;
    second =
        s;
    micros = us;
  };
  offset = o;
}

-- RFC 5424, 6.2.3.1, example 3
the_example : instant (at 2003 8 24 5 14 15 3 (negsuc 419)) ≡ pos 1061727255000003
unfolding day_number days_of_years days_of_months
the_example = refl

leap_day : instant (at 2024 3 1 0 30 0 0 (pos 60)) ≡ pos 1709249400000000
unfolding day_number days_of_years days_of_months
leap_day = refl

first_second : instant (at 0 1 1 0 0 0 0 (pos 0)) ≡ negsuc 62167219199999999
unfolding day_number days_of_years days_of_months
first_second = refl

last_second : instant (at 9999 12 31 23 59 59 999999 (pos 0)) ≡ pos 253402300799999999
unfolding day_number days_of_years days_of_months
last_second = refl

-- a text of two languages, one after the other
both : {A B : Language} → (x y : List ℕ) → A x → B y → (A ⋅ B) (x ++ y)
both x y a b = (x, y, refl, a, b)

zone_0700 : OffsetText 420 (codes "07:00")
zone_0700 = (
  7,
  0,
  refl,
  both (codes "07") (codes ":00") (omega arith, omega arith, refl)
      (both (codes ":") (codes "00") refl (omega arith, omega arith, refl)),
)

example_text : TimeText (at 2003 8 24 5 14 15 3 (negsuc 419)) (codes "2003-08-24T05:14:15.000003-07:00")
example_text =
    both (codes "2003-08-24") (codes "T05:14:15.000003-07:00")
    (both (codes "2003") (codes "-08-24") (omega arith, refl)
    (both (codes "-") (codes "08-24") refl
    (both (codes "08") (codes "-24") (omega arith, omega arith, refl)
    (both (codes "-") (codes "24") refl (omega arith, omega arith, refl)))))
    (both (codes "T") (codes "05:14:15.000003-07:00") refl
    (both (codes "05:14:15") (codes ".000003-07:00")
    (both (codes "05") (codes ":14:15") (omega arith, omega arith, refl)
    (both (codes ":") (codes "14:15") refl
    (both (codes "14") (codes ":15") (omega arith, omega arith, refl)
    (both (codes ":") (codes "15") refl (omega arith, omega arith, refl)))))
    (both (codes ".000003") (codes "-07:00")
    (inr (both (codes ".") (codes "000003") refl (
      omega arith,
      omega arith,
      (
        zero_digit,
        (
          zero_digit,
          (zero_digit, (zero_digit, (zero_digit, ((omega arith, omega arith), tt)))),
        ),
      ),
      refl,
    )))
    (inr (420, inr (refl, both (codes "-") (codes "07:00") refl zone_0700))))))
  where
    zero_digit : (48 ≤ 48) × (48 ≤ 57)
    zero_digit = (omega arith, omega arith)

priority_165 : Priority 165 (codes "<165>")
unfolding digits
priority_165 = both (codes "<") (codes "165>") refl (both (codes "165") (codes ">") (omega arith, refl) refl)

-- U+20AC, the sign of the euro
euro : IsCharacter (0xe2 ∷ 0x82 ∷ 0xac ∷ [])
unfolding IsCharacter
euro = inr (inr (inr (inl (
  0xe2 ∷ [],
  0x82 ∷ 0xac ∷ [],
  refl,
  (0xe2, refl, omega arith, omega arith),
  (
    0x82 ∷ [],
    0xac ∷ [],
    refl,
    (0x82, refl, omega arith, omega arith),
    (0xac ∷ [], [], refl, (0xac, refl, omega arith, omega arith), refl),
  ),
))))

apart : (x y : ℕ) → (x ≡ y → ⊥) → x ∷ [] ≡ y ∷ [] → ⊥
apart x y ne e = ne cc

plain_letter : (x : ℕ) → 94 ≤ x → x ≤ 127 → IsPlain (x ∷ [])
unfolding IsCharacter
plain_letter x low high = (
  inl (x ∷ [], [], refl, (x, refl, omega arith, high), refl),
  apart x 34 (λ e. omega arith),
  apart x 92 (λ e. omega arith),
  apart x 93 (λ e. omega arith),
)

-- both spellings of the three characters x, backslash, n
first_spelling : Spells (codes "x\\n") (codes "x\\n")
first_spelling = (
  codes "x" ∷ codes "\\n" ∷ [],
  refl,
  both (codes "x") (codes "\\n") (inr (inr (plain_letter 120 (omega arith) (omega arith), refl)))
      (both (codes "\\n") [] (inr (inl (codes "n", plain_letter 110 (omega arith) (omega arith), refl, refl))) refl),
)

second_spelling : Spells (codes "x\\n") (codes "x\\\\n")
second_spelling = (
  codes "x" ∷ codes "\\" ∷ codes "n" ∷ [],
  refl,
  both (codes "x") (codes "\\\\n") (inr (inr (plain_letter 120 (omega arith) (omega arith), refl)))
      (both (codes "\\\\") (codes "n") (inl (92, inr (inl refl), refl, refl))
      (both (codes "n") [] (inr (inr (plain_letter 110 (omega arith) (omega arith), refl))) refl)),
)

-- the shortest record
abbrev shortest : Parts CivilTime
shortest = record {
  priority = 0;
  time = None;
  hostname = None;
  app_name = None;
  proc_id = None;
  msg_id =
      None;
  elements = [];
  message = AnyOctets [];
}

nil : (Only (45 ∷ []) ⋅ Only (32 ∷ [])) (codes "- ")
nil = (codes "-", codes " ", refl, refl, refl)

shortest_header : Header (header_of shortest) (codes "<0>1 - - - - - ")
unfolding Header digits
shortest_header =
    both (codes "<0>") (codes "1 - - - - - ")
    (both (codes "<") (codes "0>") refl (both (codes "0") (codes ">") (omega arith, refl) refl))
    (both (codes "1 ") (codes "- - - - - ") (both (codes "1") (codes " ") refl refl)
    (both (codes "- ") (codes "- - - - ") nil
    (both (codes "- ") (codes "- - - ") nil
    (both (codes "- ") (codes "- - ") nil (both (codes "- ") (codes "- ") nil nil)))))

shortest_text : SyslogMsg shortest (codes "<0>1 - - - - - -")
shortest_text = both (codes "<0>1 - - - - - ") (codes "-") shortest_header (both (codes "-") [] refl (inl (refl, refl)))
