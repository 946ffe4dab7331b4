-- The lines of requests and answers.
use Rattle.std.specs.Prelude.{ℕ, List, [], ◌∷◌, ◌++◌, true, false, ⊤, codes, decimal}
use Rattle.site_messages.specs.Words.{IsNumber, number_text}
use Rattle.site_messages.specs.declared.request.Request.{Request as the_request}
use Rattle.site_messages.specs.declared.request.Request.TheVariants.{Hello, Parts, Split, Get, Put, End}
use Rattle.site_messages.specs.declared.answer.Answer.{Answer as the_answer}
use Rattle.site_messages.specs.declared.answer.Answer.TheVariants.{Hello as AnswerHello, Parts as AnswerParts, Cuts, Archive, Kept, Refused, Failed}

-- the words of a request
abbrev pub request_words : the_request → List ℕ
request_words Hello = codes "syslogbox reconcile 1"
request_words (Parts most) = codes "parts " ++ decimal most
request_words (Split most ranges) = codes "split " ++ (number_text most ++ decimal ranges)
request_words (Get ranges) = codes "get " ++ decimal ranges
request_words (Put octets) = codes "put " ++ decimal octets
request_words End = codes "end"

abbrev pub IsRequest : the_request → Type 0
IsRequest Hello = ⊤
IsRequest (Parts most) = IsNumber most
IsRequest (Split most ranges) = IsNumber most × IsNumber ranges
IsRequest (Get ranges) = IsNumber ranges
IsRequest (Put octets) = IsNumber octets
IsRequest End = ⊤

-- and their line
abbrev pub request_text : the_request → List ℕ
request_text r = request_words r ++ 10 ∷ []

-- the words of an answer
abbrev pub answer_words : the_answer → List ℕ
answer_words (AnswerHello false) = codes "syslogbox answer 1"
answer_words (AnswerHello true) = codes "syslogbox answer 1 read-only"
answer_words (AnswerParts parts) = codes "parts " ++ decimal parts
answer_words (Cuts ranges) = codes "cuts " ++ decimal ranges
answer_words (Archive octets) = codes "archive " ++ decimal octets
answer_words Kept = codes "kept"
answer_words Refused = codes "refused"
answer_words Failed = codes "failed"

abbrev pub IsAnswer : the_answer → Type 0
IsAnswer (AnswerHello b) = ⊤
IsAnswer (AnswerParts parts) = IsNumber parts
IsAnswer (Cuts ranges) = IsNumber ranges
IsAnswer (Archive octets) = IsNumber octets
IsAnswer Kept = ⊤
IsAnswer Refused = ⊤
IsAnswer Failed = ⊤

-- and their line
abbrev pub answer_text : the_answer → List ℕ
answer_text a = answer_words a ++ 10 ∷ []
