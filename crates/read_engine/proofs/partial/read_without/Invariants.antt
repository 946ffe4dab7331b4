use Rattle.read_engine.proofs.partial.read_without.Given as goal

abbrev pub ghosts-read_at : goal.ghosts-read_at
ghosts-read_at g a = record { name = a.folder.ghost_name; files = g.F.Folder.files a.folder.now }
