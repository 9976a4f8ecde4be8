-- Windows that are closed and raised: by number as by name.
use Rattle.std.proofs.Common.{◌≡◌, ◌↔◌, IsTrue, ℕ, Bool, true, false, cond, not, nat_eq, List, [], ◌∷◌, length, slice_get, Option, Some, refl, sym, ap, ap₂, ◌∙◌, subst, arith}
use Rattle.std.proofs.lemmas.Bool.{true≢false, and_parts, and_from, eq-eqb, eqb-true}
use Rattle.std.specs.List.{list_all}
use Rattle.kind_core.specs.declared.kinds.Kind.{Kind}
use Rattle.cmd_words.specs.declared.replies.Reply.{Reply}
use Rattle.cmd_words.specs.declared.replies.Reply.TheVariants.{Done}
use Rattle.cmd_words.specs.declared.replies.Refusal.TheVariants.{NotOpen}
use Rattle.stack_core.specs.Stack.{holds_key, without, IsStack}
use Rattle.stack_core.proofs.Keys.{without-absent, length-without}
use Rattle.widget_model.specs.Rows.{Row}
use Rattle.widget_model.specs.Nodes.{Node}
use Rattle.widget_model.specs.Kinds.{is_window_kind}
use Rattle.widget_model.specs.Named.{row_named, AreNamedApart}
use Rattle.widget_model.specs.Widgets.{Widgets, nodes, rows_in}
use Rattle.desk_model.specs.Desk.{Desk, is_window, is_open}
use Rattle.desk_model.specs.Refusals.{when, first_refusal, outcome, unless_there, unless_kind}
use Rattle.desk_model.specs.Windows.{without_window, close_effect, step_close, top_effect, step_top}
use Rattle.desk_commands.specs.Parts.{title_at, windows_at, desk_of, names_window, AreParts}
use Rattle.desk_commands.specs.Effects.{DidAll, TellsAll}
use Rattle.desk_commands.specs.Lookup.{IsFound}
use Rattle.desk_commands.proofs.WindowPlaces.{length-windows_at}
use Rattle.desk_commands.proofs.OthersLists.{list_all-without}
use Rattle.desk_layout.proofs.KeyNumbers.{numbers-same}
use Rattle.desk_commands.proofs.WindowSteps.{same_window, is_open-holds_key, found-window, found-title}

-- the others by number are the others by name
pub windows_at-without : (w : Widgets) (client : ℕ) (name : List ℕ) (key : ℕ) (kind : Kind) (keys : List ℕ) → AreNamedApart (rows_in w.entries) → IsFound w client name key kind → list_all (names_window (nodes w.entries)) keys ≡ true → windows_at (nodes w.entries) (without keys key) ≡ without_window client name (windows_at (nodes w.entries) keys)
windows_at-without w client name key kind [] own found windows = refl
windows_at-without w client name key kind (k ∷ ks) own found windows =
    by (windows_at-without w client name key kind ks own found parts.1) (nat_eq k key) (same_window w client name key kind k own found parts.0)
  where
    ns : List (ℕ × Node)
    ns = nodes w.entries

    parts : (names_window ns k ≡ true) × (list_all (names_window ns) ks ≡ true)
    parts = and_parts (names_window ns k) (list_all (names_window ns) ks) windows

    by : windows_at ns (without ks key) ≡ without_window client name (windows_at ns ks) → (b : Bool) → is_window client name (title_at ns k) ≡ b → windows_at ns (cond b (without ks key) (k ∷ without ks key)) ≡ without_window client name (windows_at ns (k ∷ ks))
    by rest true is = rest ∙ sym (rw is refl)
    by rest false is = ap (λ (ws : List (ℕ × List ℕ)). title_at ns k ∷ ws) rest ∙ sym (rw is refl)

pub step_close-by : (desk : Desk) (client : ℕ) (name : List ℕ) (row : Option Row) (b : Bool) → row_named desk.rows client name ≡ row → is_open desk client name ≡ b → step_close desk client name ≡ outcome desk (first_refusal (unless_there row ∷ unless_kind is_window_kind row ∷ when (not b) NotOpen ∷ [])) (close_effect desk client name)
unfolding step_close
step_close-by desk client name row b h k = rw (h, k) refl

pub step_top-by : (desk : Desk) (client : ℕ) (name : List ℕ) (row : Option Row) (b : Bool) → row_named desk.rows client name ≡ row → is_open desk client name ≡ b → step_top desk client name ≡ outcome desk (first_refusal (unless_there row ∷ unless_kind is_window_kind row ∷ when (not b) NotOpen ∷ [])) (top_effect desk client name)
unfolding step_top
step_top-by desk client name row b h k = rw (h, k) refl

pub closed_all : (w : Widgets) (client : ℕ) (name : List ℕ) (key : ℕ) (kind : Kind) (keys keys' : List ℕ) (reply : Reply) → AreParts w.clients w keys → IsFound w client name key kind → is_window_kind kind ≡ true → holds_key keys key ≡ true → keys' ≡ without keys key → IsStack keys' → reply ≡ Done → DidAll (λ desk. step_close desk client name) w w keys keys' reply
closed_all w client name key kind keys keys' reply kept found window there gone stack replied =
    let right : is_window_kind found.row.kind ≡ true = ap is_window_kind found.has ∙ window in
    let P : List ℕ → Type 0 = λ ks. list_all (names_window (nodes w.entries)) ks ≡ true in
    let open_now = is_open-holds_key w client name key kind keys kept.tree.rows.names found kept.windows ∙ there in
    record {
      answer = λ stage.
          ap₂ (λ (r : Reply) (ks : List ℕ). (r, desk_of stage w ks)) replied gone
          ∙ ap (λ (ws : List (ℕ × List ℕ)). (Done, record (desk_of stage w keys) { windows = ws })) (windows_at-without w client name key kind keys kept.tree.rows.names found kept.windows)
          ∙ sym (step_close-by (desk_of stage w keys) client name (Some found.row) true found.named open_now ∙ rw right refl);
      clients = refl;
      kept = record { clients = kept.clients; tree = kept.tree; stack = stack; windows = subst P (sym gone) (list_all-without (names_window (nodes w.entries)) keys key kept.windows) };
      names = λ stage id key named inside. named;
      admitted = λ entry there. refl;
      numbers = numbers-same w.entries kept.tree.rows.names;
      places = λ id row there. refl;
    }

pub raised_all : (w : Widgets) (client : ℕ) (name : List ℕ) (key : ℕ) (kind : Kind) (keys keys' : List ℕ) (reply : Reply) → AreParts w.clients w keys → IsFound w client name key kind → is_window_kind kind ≡ true → holds_key keys key ≡ true → keys' ≡ key ∷ without keys key → IsStack keys' → reply ≡ Done → DidAll (λ desk. step_top desk client name) w w keys keys' reply
raised_all w client name key kind keys keys' reply kept found window there raised stack replied =
    let right : is_window_kind found.row.kind ≡ true = ap is_window_kind found.has ∙ window in
    let P : List ℕ → Type 0 = λ ks. list_all (names_window (nodes w.entries)) ks ≡ true in
    let open_now = is_open-holds_key w client name key kind keys kept.tree.rows.names found kept.windows ∙ there in
    record {
      answer = λ stage.
          ap₂ (λ (r : Reply) (ks : List ℕ). (r, desk_of stage w ks)) replied raised
          ∙ ap₂ (λ (t : ℕ × List ℕ) (ws : List (ℕ × List ℕ)). (Done, record (desk_of stage w keys) { windows = t ∷ ws })) (found-title w client name key kind found) (windows_at-without w client name key kind keys kept.tree.rows.names found kept.windows)
          ∙ sym (step_top-by (desk_of stage w keys) client name (Some found.row) true found.named open_now ∙ rw right refl);
      clients = refl;
      kept = record { clients = kept.clients; tree = kept.tree; stack = stack; windows = subst P (sym raised) (and_from _ _ (found-window w client name key kind found window) (list_all-without (names_window (nodes w.entries)) keys key kept.windows)) };
      names = λ stage id key named inside. named;
      admitted = λ entry there. refl;
      numbers = numbers-same w.entries kept.tree.rows.names;
      places = λ id row there. refl;
    }

-- A window that is closed isn't among those that are left.
pub closed_tells : (w : Widgets) (keys keys' : List ℕ) (key : ℕ) → IsStack keys → holds_key keys key ≡ true → keys' ≡ without keys key → windows_at (nodes w.entries) keys' ≡ windows_at (nodes w.entries) keys → ⊥
closed_tells w keys keys' key stack there gone same =
    let ns = nodes w.entries in
    let shorter = length-without keys key stack.distinct there in
    omega (arith, shorter, ap length gone, ap length same, length-windows_at ns keys, length-windows_at ns keys')

-- The top window that is raised stays where it is, and so do all others.
pub raised_top : (keys : List ℕ) (key : ℕ) → IsStack keys → slice_get keys 0 ≡ Some key → key ∷ without keys key ≡ keys
raised_top [] key stack top = absurd (cc)
raised_top (k ∷ ks) key stack top =
    let same : k ≡ key = cc in
    let absent : holds_key ks key ≡ false = ap (holds_key ks) (sym same) ∙ stack.distinct.0 in
    rw (same, eq-eqb key key refl, without-absent ks key absent) refl

-- Any other one that is raised is on top then, where another was.
pub raised_other : (w : Widgets) (client : ℕ) (name : List ℕ) (key : ℕ) (kind : Kind) (keys : List ℕ) → AreNamedApart (rows_in w.entries) → IsFound w client name key kind → is_window_kind kind ≡ true → list_all (names_window (nodes w.entries)) keys ≡ true → (slice_get keys 0 ≡ Some key → ⊥) → windows_at (nodes w.entries) (key ∷ without keys key) ≡ windows_at (nodes w.entries) keys → ⊥
raised_other w client name key kind [] own found window windows lower same = absurd (cc)
raised_other w client name key kind (k ∷ ks) own found window windows lower same =
    let ns = nodes w.entries in
    let parts = and_parts (names_window ns k) (list_all (names_window ns) ks) windows in
    let here = same_window w client name key kind k own found parts.0 in
    let itself = same_window w client name key kind key own found (found-window w client name key kind found window) in
    let heads : title_at ns key ≡ title_at ns k = cc in
    let number : nat_eq k key ≡ nat_eq key key = sym here ∙ ap (is_window client name) (sym heads) ∙ itself in
    by (nat_eq k key) refl (number ∙ eq-eqb key key refl)
  where
    by : (b : Bool) → nat_eq k key ≡ b → nat_eq k key ≡ true → ⊥
    by true is h = lower (ap Some (eqb-true k key is))
    by false is h = true≢false (sym h ∙ is)

-- what is told of a window that was raised, where it was on top before or wasn't
pub raised_tells : (w : Widgets) (client : ℕ) (name : List ℕ) (key : ℕ) (kind : Kind) (keys keys' : List ℕ) (on_top changed : Bool) → AreParts w.clients w keys → IsFound w client name key kind → is_window_kind kind ≡ true → (IsTrue on_top ↔ (slice_get keys 0 ≡ Some key)) → changed ≡ not on_top → keys' ≡ key ∷ without keys key → TellsAll w w keys keys' changed
raised_tells w client name key kind keys keys' true changed kept found window tells is raised =
    let same : keys' ≡ keys = raised ∙ raised_top keys key kept.stack (tells.0 refl) in
    (λ told. absurd (true≢false (sym told ∙ is)), λ differ. absurd (differ (refl, ap (windows_at (nodes w.entries)) same)))
raised_tells w client name key kind keys keys' false changed kept found window tells is raised = (
  λ told same. raised_other w client name key kind keys kept.tree.rows.names found window kept.windows (λ top. true≢false (sym (tells.1 top))) (ap (windows_at (nodes w.entries)) (sym raised) ∙ same.1),
  λ differ. is,
)
