use Rattle.std.proofs.Common.{Bool, List, ℕ, ◌≡◌, ◌&&◌, ◌/◌, ◌<◌, [], length, take, get_or, sym, ap, ◌∙◌, arith, take_all}
use Rattle.std.specs.Int.{w32, from_le_bytes}
use Rattle.std.proofs.lemmas.List.Folds.{list_all_more}
use Rattle.wire.specs.Text.{all}
use Rattle.symbology.specs.Rows.{is_level, words}
use Rattle.symbology.proofs.RowWords.{words_length}
use Rattle.symbology.proofs.LowFirst.{low_first, both_clear, upper_clear}
use Rattle.symbology.proofs.rows.all_levels.Goals as goal

pub loop-int-preserved : goal.loop-int-preserved
loop-int-preserved c =
    let s = c.args.data.now in
    let k = c.loop-int.int-index in
    let inside : k < length s / 4 = omega (arith, c.as_chunks.ensures.front_len) in
    let here : upper_clear c.from_le_bytes-bits.result ≡ is_level (get_or (words s) k 0) =
    ap upper_clear (c.from_le_bytes-bits.ensures ∙ ap (λ (l : List (List ℕ)). from_le_bytes w32 (get_or l k [])) c.as_chunks.ensures.front)
    ∙ low_first s k (λ i. omega (arith, c.type_inv.data i)) inside in
    both_clear c.loop-int.bits c.from_le_bytes-bits.result
    ∙ ap (λ (b : Bool). b && upper_clear c.from_le_bytes-bits.result) c.loop-int.invariant
    ∙ ap (λ (b : Bool). all is_level (take k (words s)) && b) here
    ∙ sym (list_all_more is_level (words s) k 0 (omega (arith, words_length s)))

pub returns : goal.returns
returns c =
    let s = c.args.data.now in
    c.loop-int.invariant ∙ ap (all is_level) (take_all _ (words s) (omega (arith, words_length s, c.as_chunks.ensures.front_len)))
