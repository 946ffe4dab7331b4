-- The ranks with which pages begin.
use Rattle.std.specs.Prelude.{ℕ, ◌<◌, List, vec_capacity, vec_len}
use Rattle.archive_pages.specs.declared.ranks.Ranks.{Ranks}

abbrev pub ranks_of : Ranks → List ℕ
ranks_of r = r.ranks.items

-- one rank more takes no memory
abbrev pub HasRoom : Ranks → Type 0
HasRoom r = vec_len r.ranks < vec_capacity r.ranks
