use Rattle.cdl_laws.proofs.Prelude.{rules, [], ◌∷◌, refl, arith, slice_index_or, concat_parts, Dim, netcdf_word, IsName, Section, Globals, Dimensions, Variables, Values, scan, pieces_after, Close, shape, SaysStatement, brace_piece, lexemes_at, pieces_of, all_of, each_map, each_of}
use Rattle.cdl_laws.proofs.Readings.{dim_says, global_says, owned_says, pieces_are, declared}
use Rattle.cdl_laws.proofs.Ends.{dimensions_says, variables_says, data_says, opening_lexemes, comment_back}
use Rattle.cdl_laws.proofs.Sayables.{atts_speak}
use Rattle.cdl_laws.proofs.RowsRead.{rows_read_back}
use Rattle.cdl_laws.proofs.laws.piece_reads_back.Goals as goal

pub returns-clause-pieces : goal.returns-clause-pieces
returns-clause-pieces c = pieces_are

-- ---- marks

pub returns-clause-marks : goal.returns-clause-marks
unfolding pieces_of lexemes_at scan pieces_after shape concat_parts netcdf_word
returns-clause-marks c = λ v. record {
  opening = λ name rest h. rw (opening_lexemes name rest h);
  opens = λ name. record { sound = refl; shaped = refl };
  dimensions = dimensions_says v;
  variables = variables_says v (record { name = []; len = 0 } ∷ []);
  variables_alone = variables_says v [];
  values = data_says v;
  comment = comment_back;
  closing = refl;
  closes = all_of (λ (section : Section). SaysStatement v section brace_piece Close) (Globals ∷ Dimensions ∷ Variables ∷ Values ∷ []) (search rules);
  ends = record { sound = refl; shaped = refl };
}

-- ---- dimensions, declarations, attributes and values

pub returns-clause-dimensions : goal.returns-clause-dimensions
returns-clause-dimensions c = λ d records s k dim h. grind (arith, dim_says)

pub returns-clause-declarations : goal.returns-clause-declarations
returns-clause-declarations c = λ d s k var h.
    let g = s.good in
    let sound = g.is_sound.vars k var h in
    declared d.header.version d.header.dims _ (g.names.vars k var h).0 sound.shape (each_of (λ (dim : Dim). IsName dim.name) d.header.dims g.names.dims) s.dims sound.ty

pub returns-clause-attributes : goal.returns-clause-attributes
returns-clause-attributes c = λ d s k var h.
    let g = s.good in
    let x = slice_index_or d.header.vars k var in
    let speak = atts_speak d.header.version x.atts (g.is_sound.vars k var h).atts (g.values.vars k var h) (s.vars k var h).atts.some (g.names.vars k var h).1 in
    grind (arith, owned_says d.header.version x.name (g.names.vars k var h).0, speak, all_of, each_map)

pub returns-clause-global_attributes : goal.returns-clause-global_attributes
returns-clause-global_attributes c = λ d section s before.
    let g = s.good in
    grind (arith, global_says d.header.version section before, atts_speak d.header.version d.header.gatts g.is_sound.gatts g.values.gatts s.gatts.some g.names.gatts, all_of, each_map)

pub returns-clause-values : goal.returns-clause-values
returns-clause-values c = λ d records width place var s known at some. grind (arith, rows_read_back d records width place var s known at some)
