use Rattle.std.proofs.Common.{◌≡◌, ◌++◌, ap, ◌∙◌, append_assoc}
use Rattle.archive_sorting.specs.Spans.{stored}
use Rattle.archive_sorting.proofs.Blocks.{block_appended, keeps_appended, keeps_unchanged}
use Rattle.archive_sorting.proofs.arena.append.Goals as goal

pub returns-in_err-extend_from_slice-clause-keeps : goal.returns-in_err-extend_from_slice-clause-keeps
returns-in_err-extend_from_slice-clause-keeps c =
    keeps_unchanged c.args.blocks.now.items c.args.k c.index_mut-block.result.now c.extend_from_slice.new.self
    c.requires.within c.index_mut-block.ensures.value
    c.in_err-extend_from_slice.ensures.items

pub returns-in_err-extend_from_slice-2-clause-keeps : goal.returns-in_err-extend_from_slice-2-clause-keeps
returns-in_err-extend_from_slice-2-clause-keeps c =
    keeps_appended c.args.blocks.now.items c.args.k _ c.index_mut-block.result.now c.extend_from_slice-2.new.self
    c.requires.within c.index_mut-block.ensures.value
    (c.in_err-extend_from_slice-2.ensures.items ∙ c.in_ok-extend_from_slice.ensures.items)

pub returns-clause-octets : goal.returns-clause-octets
returns-clause-octets c =
    let octets = c.args.octets.now in
    let block = c.index_mut-block.result.now.items in
    let all : c.extend_from_slice-2.new.self.items ≡ block ++ stored octets =
    c.in_ok-extend_from_slice-2.ensures.items
    ∙ ap (λ p. p ++ octets) (c.in_ok-extend_from_slice.ensures.items
    ∙ ap (λ p. block ++ p) c.to_le_bytes-prefix.ensures) ∙ append_assoc block _ octets in
    block_appended c.args.blocks.now.items c.args.k (stored octets) c.index_mut-block.result.now
    c.extend_from_slice-2.new.self c.requires.within c.index_mut-block.ensures.value all

pub returns-clause-keeps : goal.returns-clause-keeps
returns-clause-keeps c =
    let octets = c.args.octets.now in
    let block = c.index_mut-block.result.now.items in
    let all : c.extend_from_slice-2.new.self.items ≡ block ++ stored octets =
    c.in_ok-extend_from_slice-2.ensures.items
    ∙ ap (λ p. p ++ octets) (c.in_ok-extend_from_slice.ensures.items
    ∙ ap (λ p. block ++ p) c.to_le_bytes-prefix.ensures) ∙ append_assoc block _ octets in
    keeps_appended c.args.blocks.now.items c.args.k (stored octets) c.index_mut-block.result.now
    c.extend_from_slice-2.new.self c.requires.within c.index_mut-block.ensures.value all
