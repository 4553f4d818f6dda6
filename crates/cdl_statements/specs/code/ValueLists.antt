-- For contracts. Where a list of plain values stands.
use Rattle.std.specs.Prelude.{◌≡◌, refl}
use Rattle.cdl_tokens.specs.code.Scanners.{comma_before}
use Rattle.cdl_tokens.specs.code.Scanners as scanners
use Rattle.cdl_statements.specs.code.Cutters.{is_done, next_token, version_of}
use Rattle.cdl_statements.specs.Pieces.{role_in}
use Rattle.cdl_statements.specs.declared.{cutter.Cutter.Cutter, value_list.ValueList.ValueList}

-- the cutter that has gone on to the comma before the list's scanner
abbrev pub reached : ValueList → Cutter
reached l = record {
  scanner = l.scanner;
  version = l.start.version;
  next = comma_before l.scanner;
  next_role = role_in (scanners.text_of l.scanner) (comma_before l.scanner);
  state = l.start.state;
  done = l.start.done;
  known = refl;
}

-- the two have the same before them
pub record SamePlace (c d : Cutter) : Type 0 where
  pub scanner : c.scanner ≡ d.scanner
  pub version : version_of c ≡ version_of d
  pub next : next_token c ≡ next_token d
  pub state : c.state ≡ d.state
  pub done : is_done c ≡ is_done d
