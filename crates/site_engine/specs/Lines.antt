-- The lines of exchanges, and their statuses.
use Rattle.std.specs.Prelude.{ℕ, List, [], ◌++◌, codes, decimal, if◌then◌else◌, nat_eq}
use Rattle.driver.specs.declared.status.TheConstants.{DONE, REFUSED}
use Rattle.site_engine.specs.declared.summary.Summary.{Summary}

abbrev pub amount_words : ℕ → ℕ → List ℕ
amount_words records octets = decimal records ++ codes " records " ++ decimal octets ++ codes " octets"

-- how many records the other site lacks and does not take, if there are some
abbrev pub not_taken_line : ℕ → List ℕ
not_taken_line n = if nat_eq n 0 then [] else decimal n ++ codes " records not taken\n"

abbrev pub end_words : Summary → List ℕ
end_words s = codes ", " ++ decimal s.requests ++ codes " requests\n" ++ not_taken_line s.not_taken

abbrev pub sent_words : Summary → List ℕ
sent_words s = amount_words s.sent.records s.sent.octets

abbrev pub got_words : Summary → List ℕ
got_words s = amount_words s.got.records s.got.octets

-- what a site tells that asked
abbrev pub summary_line : Summary → List ℕ
summary_line s =
    (if s.is_dry then codes "would send " else codes "sent ") ++ sent_words s
    ++ (if s.is_dry then codes ", would get " else codes ", got ") ++ got_words s ++ end_words s

-- what a site tells that answered
abbrev pub answer_line : Summary → List ℕ
answer_line s = codes "got " ++ got_words s ++ codes ", sent " ++ sent_words s ++ end_words s

abbrev pub summary_status : Summary → ℕ
summary_status s = if nat_eq s.not_taken 0 then DONE else REFUSED
