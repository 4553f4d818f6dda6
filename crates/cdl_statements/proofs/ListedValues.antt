-- Shapes are sound, and no more is listed of a variable than it has values, unless it has records.
use Rattle.cdl_statements.proofs.Prelude.{◌≡◌, ℕ, ◌-◌, ◌<◌, ◌≤◌, Bool, false, List, [], ◌∷◌, ◌++◌, length, map, refl, sym, subst, ap, ◌∙◌, append_assoc, arith, rules, ℤ, IfSome, position, Some, None, Result, Ok, replicate, drop, slice_index, Attribute, DeclareDimensions, DeclareVariables, Dimension, Lexeme, Listed, Statement, Value, Variable, Token, Draft, State, Takes, act, add_att, add_dim, add_dimid, add_value, add_var, change_named, change_variable, filled, takes_of, unless, values_listed, with_att, with_values, dim_len, is_record_shape, is_record_var, slab_count, CdlKind, BadName, AreDimids, IsDimid, ok_or, none_before}
use Rattle.std.proofs.lemmas.List.{append-nil, length-append, length-replicate, length-map, map-append, get_or_append_left}
use Rattle.nc_base.specs.declared.{header.Att.Att, header.Dim.Dim, header.Var.Var}
use Rattle.nc_types.specs.declared.{nc_type.NcType.NcType, version.Version.Version}
use Rattle.nc_types.specs.Names.{is_name}
use Rattle.cdl_statements.specs.Meaning.{listed_values, piece_read, run}
use Rattle.cdl_statements.proofs.Each.{Each, each_drop, each_map, each_more}
use Rattle.cdl_statements.proofs.Results.{OkIs, any_each, ok_found, ok_next, ok_then, ok_unless, ok_when, turns}

-- ---- what a statement lists

pub filled_len : (n : ℕ) (fill : ℤ) (xs : List ℤ) → length xs ≤ n → length (filled n fill xs) ≡ n
filled_len n fill xs h = let a = length-append xs (replicate (n - length xs) fill) in let b = length-replicate (n - length xs) fill in omega (arith, a, b, h)

value_step : (takes : Takes) (room : ℕ) (before : List ℤ) (x : Value) → length before ≤ room → Unit {0} → OkIs (λ (xs : List ℤ). length xs ≤ room) (add_value takes (Some room) before x)
value_step takes room before x few u = grind (arith, length-append, length-map, filled_len)

values_fit : (dims : List Dim) (var : Var) (xs : List Value) → is_record_var dims var ≡ false → OkIs (λ (values : List ℤ). length values ≤ slab_count dims var) (values_listed dims var xs)
values_fit dims var xs closed =
    let n = slab_count dims var in
    let steps = turns (add_value (takes_of dims var) (Some n)) (λ (values : List ℤ). length values ≤ n) (λ x. Unit {0}) (value_step (takes_of dims var) n) [] xs (omega arith) (any_each xs) in
    grind (arith, steps, closed)

-- ---- dimensions that are added

-- the dimensions in front stay as they are
record Extends (dims more : List Dim) : Type 0 where
  longer : length dims ≤ length more
  same : (id : ℕ) → id < length dims → dim_len more id ≡ dim_len dims id

dim_added : (first dims : List Dim) (n : Dim) → Extends first dims → Extends first (dims ++ n ∷ [])
dim_added first dims n e =
    let len = length-append dims (n ∷ []) in
    record {
      longer = omega (arith, len, e.longer);
      same = λ id h.
          (let inside : id < length (map (λ (d : Dim). d.len) dims) = omega (arith, h, e.longer, length-map dims (λ (d : Dim). d.len)) in
          ap (λ (ns : List ℕ). slice_index ns id) (map-append (λ (d : Dim). d.len) dims (n ∷ [])) ∙ get_or_append_left (map (λ (d : Dim). d.len) dims) (n.len ∷ []) 0 id inside) ∙ e.same id h;
    }

dim_step : (v : Version) (first dims : List Dim) (d : Dimension) → Extends first dims → Unit {0} → OkIs (Extends first) (add_dim v dims d)
unfolding add_dim
dim_step v first dims d e u = grind (arith, ok_unless, ok_when, ok_next, (λ (n : Dim). dim_added first dims n e))

-- ---- drafts

abbrev pub IsKnown : List Dim → ℕ → Type 0
IsKnown dims id = id < length dims

known_in : (dims : List Dim) (before ids : List ℕ) → AreDimids dims before ids → Each (IsKnown dims) ids
known_in dims before [] are = tt
known_in dims before (id ∷ ids) are = (are.0.known, known_in dims (before ++ id ∷ []) ids are.1)

-- its shape is sound, and no more is listed of it than a slab has, if it is no record variable
pub record IsFit (dims : List Dim) (d : Draft) : Type 0 where
  pub shape : AreDimids dims [] d.var.dimids
  pub within : is_record_var dims d.var ≡ false → length (listed_values d) ≤ slab_count dims d.var

module _ (dims more : List Dim) (e : Extends dims more) where
  same_lens : (ids : List ℕ) → Each (IsKnown dims) ids → map (dim_len more) ids ≡ map (dim_len dims) ids
  same_lens [] known = refl
  same_lens (id ∷ ids) known = grind (arith, e.same id known.0, same_lens ids known.1)

  same_shape : (ids : List ℕ) → Each (IsKnown dims) ids → is_record_shape more ids ≡ is_record_shape dims ids
  same_shape [] known = refl
  same_shape (id ∷ ids) known = grind (arith, e.same id known.0, known.0, e.longer)

  same_slab : (var : Var) → Each (IsKnown dims) var.dimids → slab_count more var ≡ slab_count dims var
  same_slab var known = grind (arith, same_shape var.dimids known, same_lens var.dimids known, same_lens (drop 1 var.dimids) (each_drop (IsKnown dims) 1 var.dimids known))

  still_shaped : (before ids : List ℕ) → AreDimids dims before ids → AreDimids more before ids
  still_shaped before [] are = tt
  still_shaped before (id ∷ ids) are = grind (arith, still_shaped (before ++ id ∷ []) ids are.1, e.same id are.0.known, e.longer)

  still_fit : (d : Draft) → IsFit dims d → IsFit more d
  still_fit d fit =
      let known = known_in dims [] d.var.dimids fit.shape in
      record {
        shape = still_shaped [] d.var.dimids fit.shape;
        within = λ closed. let slab = same_slab d.var known in let small = fit.within (sym (same_shape d.var.dimids known) ∙ closed) in omega (arith, slab, small);
      }

-- ---- statements

dimids_more : (dims : List Dim) (before ids : List ℕ) (k : ℕ) → AreDimids dims before ids → IsDimid dims (before ++ ids) k → AreDimids dims before (ids ++ k ∷ [])
dimids_more dims before [] k are is = (subst (λ b. IsDimid dims b k) (append-nil before) is, tt)
dimids_more dims before (i ∷ ids) k are is = (are.0, dimids_more dims (before ++ i ∷ []) ids k are.1 (subst (λ b. IsDimid dims b k) (sym (append_assoc before (i ∷ []) ids)) is))

position_under : {X : Type 0} (p : X → Bool) (xs : List X) → IfSome (position p xs) (λ k. k < length xs)
position_under p xs = search rules

id_step : (dims : List Dim) (ids name : List ℕ) → AreDimids dims [] ids → Unit {0} → OkIs (AreDimids dims []) (add_dimid dims ids name)
unfolding add_dimid
id_step dims ids name are u = search (rules, ok_unless, ok_or, ok_found, position_under, ok_when, dimids_more, none_before)

var_step : (dims : List Dim) (ty : NcType) (drafts : List Draft) (x : Variable) → Each (IsFit dims) drafts → Unit {0} → OkIs (Each (IsFit dims)) (add_var dims ty drafts x)
unfolding add_var
var_step dims ty drafts x fit u =
    let ids = turns (add_dimid dims) (AreDimids dims []) (λ name. Unit {0}) (id_step dims) [] x.dimensions tt (any_each x.dimensions) in
    grind (arith, ids, ok_unless, ok_when, ok_then, each_more)

named_keeps : (P : Draft → Type 0) (name : List ℕ) (f : Draft → Result Draft CdlKind) → ((d : Draft) → P d → OkIs P (f d)) → (ds : List Draft) → Each P ds → OkIs (Each P) (change_named name f ds)
named_keeps P name f step [] each = tt
named_keeps P name f step (d ∷ ds) each = grind (arith, ok_then, step d each.0, named_keeps P name f step ds each.1)

changed_fit : (dims : List Dim) (name : List ℕ) (f : Draft → Result Draft CdlKind) → ((d : Draft) → IsFit dims d → OkIs (IsFit dims) (f d)) → (ds : List Draft) → Each (IsFit dims) ds → OkIs (Each (IsFit dims)) (change_variable name f ds)
unfolding change_variable
changed_fit dims name f step ds fit = ok_next (Each (IsFit dims)) (unless (is_name name) BadName) (λ u. change_named name f ds) (λ u. named_keeps (IsFit dims) name f step ds fit)

att_fit : (dims : List Dim) (name : List ℕ) (cs : List Value) (d : Draft) → IsFit dims d → OkIs (IsFit dims) (with_att name cs d)
att_fit dims name cs d fit =
    ok_next (IsFit dims) (add_att name cs d.var.atts) (λ (atts : List Att). Ok (record d { var = record d.var { atts = atts } })) (λ atts. record { shape = fit.shape; within = fit.within })

listing_fit : (dims : List Dim) (xs : List Value) (d : Draft) → IsFit dims d → OkIs (IsFit dims) (with_values dims xs d)
listing_fit dims xs d fit = grind (arith, values_fit dims d.var xs, ok_when, ok_then)

abbrev pub AreFit : State → Type 0
AreFit s = Each (IsFit s.dims) s.drafts

act_fit : (v : Version) (s : State) (st : Statement) → AreFit s → OkIs AreFit (act v s st)
unfolding act
act_fit v s (DeclareDimensions ds) fit =
    let dims = turns (add_dim v) (Extends s.dims) (λ d. Unit {0}) (dim_step v s.dims) s.dims ds (record { longer = omega arith; same = λ id h. refl }) (any_each ds) in
    grind (arith, dims, ok_then, (λ (dims : List Dim) (e : Extends s.dims dims). each_map (IsFit s.dims) (IsFit dims) s.drafts (still_fit s.dims dims e) fit))
act_fit v s (DeclareVariables word vs) fit =
    grind (arith, ok_next, ok_then, (λ (ty : NcType). turns (add_var s.dims ty) (Each (IsFit s.dims)) (λ x. Unit {0}) (var_step s.dims ty) s.drafts vs fit (any_each vs)))
act_fit v s (Attribute None name cs) fit = grind (arith, ok_next)
act_fit v s (Attribute (Some variable) name cs) fit =
    grind (arith, ok_then, changed_fit s.dims variable (with_att name cs) (att_fit s.dims name cs) s.drafts fit)
act_fit v s (Listed variable xs) fit =
    grind (arith, ok_then, changed_fit s.dims variable (with_values s.dims xs) (listing_fit s.dims xs) s.drafts fit)
act_fit v s _ fit = fit

pub piece_fit : (v : Version) (s : State) (piece : List Lexeme) → AreFit s → OkIs AreFit (piece_read v s piece)
unfolding piece_read
piece_fit v s piece fit = grind (arith, act_fit v s)

pub run_fit : (text : List ℕ) (v : Version) (s : State) (ps : List (List Token)) → AreFit s → OkIs AreFit (run text v s ps)
unfolding run
run_fit text v s [] fit = fit
run_fit text v s (p ∷ ps) fit = grind (arith, piece_fit v s, (λ (t : State). run_fit text v t ps))
