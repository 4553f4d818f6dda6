use Rattle.std.proofs.Common.{ℕ, ◌∙◌, List, sym, subst}
use Rattle.devices.specs.code.SinkWrites.{Wrote}
use Rattle.check_lines.specs.Json.{json_text}
use Rattle.check_lines.proofs.Styled.{plain_json}
use Rattle.check_lines.proofs.style.put_json_text.Goals as goal

pub returns-then-are_plain : goal.returns-then-are_plain
returns-then-are_plain g c =
    subst (λ (text : List ℕ). Wrote g.W.Sink.view c.args.sink.now c.put.new.sink text c.put.result)
    (sym (plain_json c.args.text.now (sym c.are_plain.ensures ∙ c.if-are_plain.true))) c.put.ensures

pub returns-else-are_plain : goal.returns-else-are_plain
unfolding json_text
returns-else-are_plain g c = c.put_json_bytes.ensures
