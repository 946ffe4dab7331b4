-- Answers to requests (RFC 9110, RFC 9112).
use Rattle.std.specs.Prelude.{ℕ, Bool, List, [], ◌++◌, codes, decimal, length, if◌then◌else◌, true}
use Rattle.server_metrics.specs.declared.answer.Code.{Code}
use Rattle.server_metrics.specs.declared.answer.Code.TheVariants as code
use Rattle.server_metrics.specs.declared.answer.Health.{Health}
use Rattle.server_metrics.specs.declared.answer.Health.TheVariants as health
use Rattle.server_metrics.specs.declared.request.Asked.{Asked}
use Rattle.server_metrics.specs.declared.request.Asked.TheVariants as asked

-- the status line
abbrev pub status_text : Code → List ℕ
status_text code.Ok = codes "HTTP/1.1 200 OK\r\n"
status_text code.BadRequest = codes "HTTP/1.1 400 Bad Request\r\n"
status_text code.NotFound = codes "HTTP/1.1 404 Not Found\r\n"
status_text code.MethodNotAllowed = codes "HTTP/1.1 405 Method Not Allowed\r\n"
status_text code.Unavailable = codes "HTTP/1.1 503 Service Unavailable\r\n"

-- a field, and the one that says how many octets the content has
unfoldable pub field_text : List ℕ → List ℕ → List ℕ
field_text name value = name ++ (codes ": " ++ (value ++ codes "\r\n"))

unfoldable pub length_field : ℕ → List ℕ
length_field size = field_text (codes "Content-Length") (decimal size)

-- the field that names the methods that are allowed, where the method was not
abbrev pub allow_text : Code → List ℕ
allow_text code.Ok = []
allow_text code.BadRequest = []
allow_text code.NotFound = []
allow_text code.MethodNotAllowed = field_text (codes "Allow") (codes "GET, HEAD")
allow_text code.Unavailable = []

-- the fields that say of which type the content is, how many octets it has, and that the connection ends
unfoldable pub fields_text : List ℕ → ℕ → List ℕ
fields_text media_type size = field_text (codes "Content-Type") media_type
    ++ (length_field size ++ field_text (codes "Connection") (codes "close"))

-- An answer: the status line, the fields, an empty line, and the content, which is left out if the method was HEAD. The length is that of
-- the content all the same.
unfoldable pub reply_text : Code → List ℕ → List ℕ → Bool → List ℕ
reply_text status media_type content has_body = status_text status ++ (fields_text media_type (length content)
    ++ (allow_text status ++ (codes "\r\n" ++ (if has_body then content else []))))

-- an answer whose content is plain text
abbrev pub plain_reply : Code → List ℕ → Bool → List ℕ
plain_reply status content has_body = reply_text status (codes "text/plain; charset=utf-8") content has_body

-- how the server does
abbrev pub health_reply : Health → Bool → List ℕ
health_reply health.Ok has_body = plain_reply code.Ok (codes "ok\n") has_body
health_reply health.DiskFull has_body = plain_reply code.Unavailable (codes "the disk is full\n") has_body
health_reply health.NoCommit has_body = plain_reply code.Unavailable (codes "no commit was made for a minute\n") has_body

-- The answer to what is asked for. A head that is not whole is a bad request.
abbrev pub answer_text : Asked → Health → List ℕ → List ℕ
answer_text asked.More does page = plain_reply code.BadRequest (codes "bad request\n") true
answer_text asked.Bad does page = plain_reply code.BadRequest (codes "bad request\n") true
answer_text (asked.Metrics body) does page = reply_text code.Ok (codes "text/plain; version=0.0.4; charset=utf-8") page body
answer_text (asked.Health body) does page = health_reply does body
answer_text (asked.NotFound body) does page = plain_reply code.NotFound (codes "not found\n") body
answer_text asked.Method does page = plain_reply code.MethodNotAllowed (codes "method not allowed\n") true
