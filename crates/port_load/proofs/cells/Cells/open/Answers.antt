use Rattle.std.proofs.Common.{◌≡◌, ℕ, ◌*◌, ◌/◌, ◌^◌, ◌<◌, ◌++◌, ◌∷◌, [], length, refl, sym, ap, ◌∙◌, arith, rules}
use Rattle.std.specs.Prelude.{replicate, slice_index, slice_set, vec_capacity}
use Rattle.std.proofs.lemmas.Grind.{get_or_default_zero}
use Rattle.std.proofs.lemmas.List.{append-nil, get_or-set_same, length-append, length-replicate}
use Rattle.port_load.specs.CellTable.{CellTable, cells_in, no_block}
use Rattle.port_load.proofs.CellSteps.{blocks_along, blocks_opened, cells_along, cells_opened, few_numbers, one_zero_more, room_for_one}
use Rattle.port_load.proofs.cells.Cells.open.Goals as goal

pub loop-count-init : goal.loop-count-init
loop-count-init c = record {
  rows = refl;
  columns = refl;
  blocks = refl;
  numbers = sym (append-nil c.self.inside.numbers.items);
  room = refl;
}

pub push_reserved-requires : goal.push_reserved-requires
push_reserved-requires c =
    let s = c.self.inside in
    let k = c.loop-count._count in
    let lt : c.args.place < length s.blocks.items = omega (arith, c.requires.place_in, ap (λ (x : CellTable). length x.blocks) c.self.view_is) in
    let fits : c.index.result.now < 2 ^ 32 = search rules in
    let none : slice_index s.blocks.items c.args.place ≡ no_block =
    omega (arith, fits, c.index.ensures, get_or_default_zero s.blocks.items c.args.place c.index.result.now lt, c.if-index-lt4294967295.false) in
    let room = room_for_one s.rows s.columns s.blocks.items s.numbers.items (vec_capacity s.numbers) c.args.place c.self.invariant lt none in
    omega (arith, ap length c.loop-count.invariant.numbers, length-append s.numbers.items (replicate k 0), length-replicate {A = ℕ} k 0, c.loop-count.invariant.room, room)

pub loop-count-preserved : goal.loop-count-preserved
loop-count-preserved c = record {
  rows = c.loop-count.invariant.rows;
  columns = c.loop-count.invariant.columns;
  blocks = c.loop-count.invariant.blocks;
  numbers = c.push_reserved.ensures.items ∙ ap (λ xs. xs ++ 0 ∷ []) c.loop-count.invariant.numbers ∙ one_zero_more c.self.inside.numbers.items c.loop-count._count;
  room = c.push_reserved.ensures.capacity ∙ c.loop-count.invariant.room;
}

pub overflow_cast-block : goal.overflow_cast-block
overflow_cast-block c =
    let s = c.self.inside in
    omega (arith, c.len-block.ensures, few_numbers s.rows s.columns s.blocks.items s.numbers.items (vec_capacity s.numbers) c.self.invariant)

pub invariant_of-self : goal.invariant_of-self
invariant_of-self c =
    let s = c.self.inside in
    let l = c.loop-count in
    let place = c.args.place in
    let b = c.len-block.result / 64 in
    let lt : place < length s.blocks.items = omega (arith, c.requires.place_in, ap (λ (x : CellTable). length x.blocks) c.self.view_is) in
    let fits : c.index.result.now < 2 ^ 32 = search rules in
    let none : slice_index s.blocks.items place ≡ no_block =
    omega (arith, fits, c.index.ensures, get_or_default_zero s.blocks.items place c.index.result.now lt, c.if-index-lt4294967295.false) in
    let b_is : b * 64 ≡ length s.numbers.items = omega (arith, c.len-block.ensures, c.self.invariant.numbers_len) in
    let end : l._count ≡ 64 = omega arith in
    blocks_along s.rows s.columns (slice_set s.blocks.items place b) (s.numbers.items ++ replicate 64 0) (vec_capacity s.numbers) l.self-inside.rows l.self-inside.columns
    (slice_set l.self-inside.blocks.items place b) l.self-inside.numbers.items (vec_capacity l.self-inside.numbers)
    l.invariant.rows l.invariant.columns (ap (λ xs. slice_set xs place b) l.invariant.blocks) (l.invariant.numbers ∙ ap (λ n. s.numbers.items ++ replicate n 0) end)
    l.invariant.room
    (blocks_opened s.rows s.columns s.blocks.items s.numbers.items (vec_capacity s.numbers) place b c.self.invariant lt none b_is)

pub returns-clause-size : goal.returns-clause-size
returns-clause-size c = record {
  rows = c.loop-count.invariant.rows ∙ ap (λ (x : CellTable). x.rows) c.self.view_is;
  columns = c.loop-count.invariant.columns ∙ ap (λ (x : CellTable). x.columns) c.self.view_is;
}

pub returns-clause-there : goal.returns-clause-there
returns-clause-there c = λ e.
    let s = c.self.inside in
    let bs = c.loop-count.self-inside.blocks.items in
    let place = c.args.place in
    let b = c.len-block.result / 64 in
    let lt : place < length bs = omega (arith, c.requires.place_in, ap (λ (x : CellTable). length x.blocks) c.self.view_is, ap length c.loop-count.invariant.blocks) in
    omega (arith, e, get_or-set_same bs place b 0 lt, c.len-block.ensures, few_numbers s.rows s.columns s.blocks.items s.numbers.items (vec_capacity s.numbers) c.self.invariant)

pub returns-clause-cells : goal.returns-clause-cells
returns-clause-cells c =
    let s = c.self.inside in
    let l = c.loop-count in
    let place = c.args.place in
    let b = c.len-block.result / 64 in
    let t : CellTable = record { rows = s.rows; columns = s.columns; blocks = s.blocks.items; numbers = s.numbers.items } in
    let lt : place < length s.blocks.items = omega (arith, c.requires.place_in, ap (λ (x : CellTable). length x.blocks) c.self.view_is) in
    let fits : c.index.result.now < 2 ^ 32 = search rules in
    let none : slice_index s.blocks.items place ≡ no_block =
    omega (arith, fits, c.index.ensures, get_or_default_zero s.blocks.items place c.index.result.now lt, c.if-index-lt4294967295.false) in
    let b_is : b * 64 ≡ length s.numbers.items = omega (arith, c.len-block.ensures, c.self.invariant.numbers_len) in
    let end : l._count ≡ 64 = omega arith in
    cells_along s.rows s.columns (slice_set s.blocks.items place b) (s.numbers.items ++ replicate 64 0) l.self-inside.rows l.self-inside.columns
    (slice_set l.self-inside.blocks.items place b) l.self-inside.numbers.items
    l.invariant.rows l.invariant.columns (ap (λ xs. slice_set xs place b) l.invariant.blocks) (l.invariant.numbers ∙ ap (λ n. s.numbers.items ++ replicate n 0) end)
    ∙ cells_opened t (vec_capacity s.numbers) place b c.self.invariant lt none b_is ∙ ap cells_in c.self.view_is
