use Rattle.read_engine.proofs.damaged.verify_without.Given as goal

abbrev pub ghosts-verify_at : goal.ghosts-verify_at
ghosts-verify_at g a = record { name = a.folder.ghost_name; files = g.F.Folder.files a.folder.now }
