use Rattle.cdl_parse.proofs.Prelude.{◌≡◌, List, [], length, refl, ap, sym, ◌∙◌, subst, replicate, Dim, pieces_left, text_of, version_of, run, Draft, AllList, AllSuit, AreShaped, Target, unlisted_drafts}
use Rattle.cdl_parse.proofs.WholeTexts.{none_listed, past_values}
use Rattle.cdl_parse.proofs.text.read_values.Goals as goal

suit_same : (dims ds : List Dim) (unlisted drafts : List Draft) (targets : List Target) → ds ≡ dims → drafts ≡ unlisted → AreShaped ds drafts → (AreShaped dims unlisted → AllSuit dims targets unlisted) → AllSuit ds targets drafts
suit_same dims ds unlisted drafts targets a b shaped h =
    subst (λ d. AllSuit d targets drafts) (sym a) (subst (AllSuit dims targets) (sym b) (h (subst (AreShaped dims) b (subst (λ d. AreShaped d drafts) a shaped))))

pub returns-in_ok-targets-in-Values-clause-reads : goal.returns-in_ok-targets-in-Values-clause-reads
returns-in_ok-targets-in-Values-clause-reads c = λ s here at.
    let suit = suit_same c.args.dims.now s.dims _ s.drafts _ at.has_dims at.unlisted at.shaped c.in_ok-targets-in-Values.ensures in
    c.read_data.ensures.reads c.args.vars.now s (record { section = here ∙ c.in-Values.is; named = at.named; suit = suit; unlisted = at.unlisted; short = at.short })

pub returns-in_ok-empty_arrays-in_default : goal.returns-in_ok-empty_arrays-in_default
returns-in_ok-empty_arrays-in_default c =
    let start = c.args.start.cutter in
    let vars = c.args.vars.now in
    let empty : c.in_ok-empty_arrays-in_default.field-0.items ≡ replicate (length vars) [] = c.in_ok-empty_arrays-in_default.ensures in
    record {
      reads = λ s section at. (
        unlisted_drafts vars,
        subst (λ arrays. AllList vars arrays (unlisted_drafts vars)) (sym empty) (none_listed vars),
        ap (λ here. run (text_of start) (version_of start) (record s { section = here }) (pieces_left start)) section ∙
            ap (λ ds. run (text_of start) (version_of start) (record s { section = c.args.section; drafts = ds }) (pieces_left start)) at.unlisted,
      );
      past = λ more. past_values c.args.section (c.requires more) c.in_default.not-Values;
      same = record { text = refl; version = refl };
      line = refl;
    }
