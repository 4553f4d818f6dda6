use Rattle.cdl_print.proofs.Prelude.{◌+◌, ◌++◌, List, ℕ, arith, sym, ap, ◌∙◌, take, drop, length, ◌-◌, append_assoc, is_literal, length-drop, length-take-le, list_all, take_all, length-put_chunk, take_more_put_chunk, take-add, take_all_of}
use Rattle.cdl_print.proofs.Lanes.{copied_part, more_pass, read_again, run_at}
use lib.Lanes.{put_chunk}
use Rattle.cdl_print.proofs.escaped.put_literal_run.Goals as goal

pub returns-then-bytes-lt-LANES : goal.returns-then-bytes-lt-LANES
returns-then-bytes-lt-LANES c =
    let at = c.args.at in
    let bytes = c.args.bytes.now in
    let new = c.put_bytes.new.text in
    let run = c.literal_run.ensures in
    let copied = ap (λ m. take m new) (sym c.put_bytes.ensures.end) ∙ c.put_bytes.ensures.written ∙ ap (λ (xs : List ℕ). take at c.args.text.now ++ xs) (sym (take_all_of bytes)) in
    let text = copied_part c.args.text.now new bytes at _ c.min.result copied (omega arith) (omega arith) in
    record {
      within = omega (arith, c.min.ensures);
      literal = ap (list_all is_literal) (sym (read_again c.args.text.now new bytes at c.min.result text (omega arith))) ∙ run_at is_literal new at 16 c.min.result (omega (arith, run.len, c.min.ensures)) (omega (arith, run.within, c.min.ensures));
      text = text;
    }

pub returns-then-is_literal_block : goal.returns-then-is_literal_block
returns-then-is_literal_block c =
    let at = c.args.at in
    let bytes = c.args.bytes.now in
    let old = c.args.text.now in
    let run = c.literal_run-run.ensures in
    let first = take_more_put_chunk at old (take 16 bytes) (at + 16) (omega (arith, length-take-le 16 bytes (omega arith))) (omega arith) in
    let then = take_more_put_chunk (at + 16) (put_chunk at old (take 16 bytes)) (take 64 (drop 16 bytes)) (at + 80) (omega (arith, length-take-le 64 (drop 16 bytes) (omega (arith, length-drop 16 bytes)), length-drop 16 bytes)) (omega (arith, length-put_chunk at old (take 16 bytes))) in
    let whole = take_all (length bytes - 16) (drop 16 bytes) (omega (arith, length-drop 16 bytes)) in
    record {
      within = omega arith;
      literal = more_pass is_literal bytes 16 64 (run_at is_literal bytes 0 16 16 (omega (arith, run.len)) (omega arith)) (ap (λ (xs : List ℕ). list_all is_literal (take 64 xs)) (sym whole) ∙ c.is_literal_block.ensures c.if-is_literal_block.true);
      text = then ∙ ap (λ (xs : List ℕ). xs ++ take 64 (drop 16 bytes)) first ∙ append_assoc (take at old) (take 16 bytes) (take 64 (drop 16 bytes)) ∙ ap (λ (xs : List ℕ). take at old ++ xs) (sym (take-add 16 64 bytes));
    }

pub returns : goal.returns
returns c =
    let at = c.args.at in
    let bytes = c.args.bytes.now in
    let old = c.args.text.now in
    let run = c.literal_run-run.ensures in
    let copied = take_more_put_chunk at old (take 16 bytes) (at + 16) (omega (arith, length-take-le 16 bytes (omega arith))) (omega arith) in
    record {
      within = omega (arith, run.within);
      literal = run_at is_literal bytes 0 16 _ (omega (arith, run.len)) run.within;
      text = copied_part old _ bytes at 16 _ copied (omega arith) run.within;
    }
