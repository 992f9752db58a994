-- Factoring by tasks.
use Rattle.std.proofs.Common.{◌≡◌, ◌+◌, ◌-◌, ◌/◌, ◌<◌, ◌≤◌, ℕ, zero, suc, Bool, true, false, not, cond, ltb, Option, Some, None, List, [], ◌∷◌, ◌++◌, length, map, filter, drop, get_or, refl, ap, ap₂, sym, ◌∙◌, subst, arith, ltb-true, length-append, Vec, Global}
use Rattle.std.specs.List.{AllByRecursion}
use Rattle.std.proofs.lemmas.List.{at_drop_more, length-map, map-append, drop_all}
use Rattle.lw_facts.proofs.Lists.{all_front, all_last}
use Rattle.lw_laws.specs.Forms.{Form, conjunction, disjunction}
use Rattle.lw_laws.specs.Signals as laws
use Rattle.lw_laws.specs.Signals.{signed, asks, has_at, has, cleared_at, cleared, count_having, literals_from, most_common, shared_literal, literal_form, factored_by, factored, sum_of_products}
use Rattle.lw_laws.specs.SignalValues.{form_of}
use Rattle.lw_laws.proofs.Factoring.{factored_step}
use Rattle.lw_laws.proofs.Lists.{all_append}
use Rattle.lw_form.specs.declared.factoring.Literal.{Literal}
use Rattle.lw_form.specs.declared.factoring.Task.{Task}
use Rattle.lw_form.specs.declared.factoring.Task.TheVariants.{Factor, Join}
use Rattle.lw_form.specs.Factoring.{plain_literal, PlainTask, plain_task, turned, outcome, TaskFits, IsWorking, sign_count, signs_of_rows, weight, weights}
use Rattle.lw_form.specs.Factoring.PlainTask.{factor_rows, join_under}
use Rattle.lw_form.specs.Products.{HaveColumns, signed_number}
use Rattle.lw_form.specs.Tables.{AreBelow, forms_at, AreMade, HasMore, Table, made, IsMadeAs}
use Rattle.lw_form.proofs.Joining.{more_twice, more_length, form_kept, forms_kept, below_kept_more, below_append, below_other}
use Rattle.lw_form.proofs.Rows.{signed_form}
use Rattle.lw_laws.specs.Forms.Form.{true_form}

abbrev pub Rows : Type 0
Rows = List (List (Option Bool))

-- counting

count_step : (l : laws.Literal) (rows : List (List (Option Bool))) (i : ℕ) (row : List (Option Bool)) → i < length rows → row ≡ get_or rows i row → count_having l (drop i rows) ≡ cond (has l row) 1 0 + count_having l (drop (i + 1) rows)
count_step l rows i row lt e = at_drop_more (count_having l) rows i row lt ∙ ap (λ r. cond (has l r) 1 0 + count_having l (drop (i + 1) rows)) (sym e)

pub count_one : (l : laws.Literal) (rows : List (List (Option Bool))) (i old new : ℕ) (row : List (Option Bool)) → i < length rows → row ≡ get_or rows i row → has l row ≡ true → new ≡ old + 1 → old + count_having l (drop i rows) ≡ count_having l rows → new + count_having l (drop (i + 1) rows) ≡ count_having l rows
count_one l rows i old new row lt e h n so =
    let s = count_step l rows i row lt e in
    let one : ◌≡◌ {A = ℕ} (cond (has l row) 1 0) 1 = ap {B = ℕ} (λ (t : Bool). cond t 1 0) h in
    omega arith

pub count_none : (l : laws.Literal) (rows : List (List (Option Bool))) (i old new : ℕ) (row : List (Option Bool)) → i < length rows → row ≡ get_or rows i row → has l row ≡ false → new ≡ old → old + count_having l (drop i rows) ≡ count_having l rows → new + count_having l (drop (i + 1) rows) ≡ count_having l rows
count_none l rows i old new row lt e h n so =
    let s = count_step l rows i row lt e in
    let one : ◌≡◌ {A = ℕ} (cond (has l row) 1 0) 0 = ap {B = ℕ} (λ (t : Bool). cond t 1 0) h in
    omega arith

pub count_all : (l : laws.Literal) (rows : List (List (Option Bool))) (i n : ℕ) → length rows ≤ i → n + count_having l (drop i rows) ≡ count_having l rows → n ≡ count_having l rows
count_all l rows i n le so = let e : count_having l (drop i rows) ≡ 0 = ap (count_having l) (drop_all i rows le) in omega arith

-- the choice of a literal

abbrev pub literal_at : ℕ → Bool → laws.Literal
literal_at column sign = record { column = column; sign = sign }

pub literals_more : (columns column : ℕ) → column < columns → literals_from column (columns - column) ≡ literal_at column true ∷ literal_at column false ∷ literals_from (column + 1) (columns - (column + 1))
literals_more columns column lt = let e : columns - column ≡ suc (columns - (column + 1)) = omega arith in ap (literals_from column) e

pub literals_end : (columns column : ℕ) → columns ≤ column → literals_from column (columns - column) ≡ []
literals_end columns column le = let e : columns - column ≡ 0 = omega arith in ap (literals_from column) e

-- a literal that is chosen is one of a column, and stands in more rows
pub record IsIn (rows : List (List (Option Bool))) (columns n : ℕ) (l : laws.Literal) : Type 0 where
  pub column : l.column < columns
  pub rows_have : n < count_having l rows

abbrev AreIn : ℕ → List laws.Literal → Type 0
AreIn columns [] = Unit {0}
AreIn columns (l ∷ ls) = (l.column < columns) × AreIn columns ls

literals_in : (column n columns : ℕ) → column + n ≤ columns → AreIn columns (literals_from column n)
literals_in column zero columns le = tt
literals_in column (suc n) columns le = (omega arith, (omega arith, literals_in (column + 1) n columns (omega arith)))

most_in : (rows : List (List (Option Bool))) (columns : ℕ) (ls : List laws.Literal) (n : ℕ) (best : Option laws.Literal) → AreIn columns ls → 1 ≤ n → ((l : laws.Literal) → best ≡ Some l → IsIn rows columns 1 l) → (l : laws.Literal) → most_common rows ls n best ≡ Some l → IsIn rows columns 1 l
most_in rows columns [] n best a one is l e = is l e
most_in rows columns (k ∷ ls) n best (p, a) one is l e =
    by_test (ltb n (count_having k rows)) refl e (λ o i d. most_in rows columns ls (count_having k rows) (Some k) a o i l d) (λ d. most_in rows columns ls n best a one is l d)
  where
    by_test : (t : Bool) → ltb n (count_having k rows) ≡ t → elim t as (λ x. Option laws.Literal) [ true ↦ most_common rows ls (count_having k rows) (Some k) | false ↦ most_common rows ls n best ] ≡ Some l → (1 ≤ count_having k rows → ((h : laws.Literal) → Some k ≡ Some h → IsIn rows columns 1 h) → most_common rows ls (count_having k rows) (Some k) ≡ Some l → IsIn rows columns 1 l) → (most_common rows ls n best ≡ Some l → IsIn rows columns 1 l) → IsIn rows columns 1 l
    by_test true s e q r = let lt = ltb-true n (count_having k rows) s in q (omega arith) (λ h d. let same : k ≡ h = cc in subst (IsIn rows columns 1) same (record { column = p; rows_have = omega arith })) e
    by_test false s e q r = r e

pub shared_in : (rows : List (List (Option Bool))) (columns : ℕ) (l : laws.Literal) → shared_literal columns rows ≡ Some l → IsIn rows columns 1 l
shared_in rows columns l e = most_in rows columns (literals_from 0 columns) 1 None (literals_in 0 columns columns (omega arith)) (omega arith) (λ h d. absurd (none h d)) l e where
  none : (h : laws.Literal) → None ≡ Some h → ⊥
  none h d = cc

-- a cut

abbrev pub having : laws.Literal → List (List (Option Bool)) → List (List (Option Bool))
having l rows = map (cleared l) (filter (has l) rows)

abbrev pub others : laws.Literal → List (List (Option Bool)) → List (List (Option Bool))
others l rows = filter (λ r. not (has l r)) rows

pub record CutSoFar (l : laws.Literal) (all left kept_rows other_rows : List (List (Option Bool))) : Type 0 where
  pub having_is : kept_rows ++ having l left ≡ having l all
  pub others_is : other_rows ++ others l left ≡ others l all

-- columns and signs of cut rows

cleared_length : (k : ℕ) (row : List (Option Bool)) → length (cleared_at k row) ≡ length row
cleared_length k [] = refl
cleared_length zero (c ∷ row) = refl
cleared_length (suc k) (c ∷ row) = ap suc (cleared_length k row)

pub columns_having : (l : laws.Literal) (columns : ℕ) (rows : List (List (Option Bool))) → HaveColumns columns rows → HaveColumns columns (having l rows)
columns_having l columns [] h = tt
columns_having l columns (row ∷ rows) (p, h) = by_test (has l row) (columns_having l columns rows h) where
  by_test : (t : Bool) → HaveColumns columns (having l rows) → HaveColumns columns (map (cleared l) (cond t (row ∷ filter (has l) rows) (filter (has l) rows)))
  by_test true k = (cleared_length l.column row ∙ p, k)
  by_test false k = k

pub columns_others : (l : laws.Literal) (columns : ℕ) (rows : List (List (Option Bool))) → HaveColumns columns rows → HaveColumns columns (others l rows)
columns_others l columns [] h = tt
columns_others l columns (row ∷ rows) (p, h) = by_test (has l row) (columns_others l columns rows h) where
  by_test : (t : Bool) → HaveColumns columns (others l rows) → HaveColumns columns (cond (not t) (row ∷ others l rows) (others l rows))
  by_test true k = k
  by_test false k = (p, k)

cleared_signs : (k : ℕ) (sign : Bool) (row : List (Option Bool)) → has_at k sign row ≡ true → suc (sign_count (cleared_at k row)) ≡ sign_count row
cleared_signs k sign [] e = cc
cleared_signs zero sign (None ∷ row) e = none sign e where
  none : (s : Bool) → asks s None ≡ true → suc (sign_count row) ≡ sign_count row
  none true e = cc
  none false e = cc
cleared_signs zero sign (Some b ∷ row) e = omega arith
cleared_signs (suc k) sign (None ∷ row) e = cleared_signs k sign row e
cleared_signs (suc k) sign (Some b ∷ row) e = let ih = cleared_signs k sign row e in omega arith

pub signs_cut : (l : laws.Literal) (rows : List (List (Option Bool))) → signs_of_rows (having l rows) + signs_of_rows (others l rows) + count_having l rows ≡ signs_of_rows rows
signs_cut l [] = refl
signs_cut l (row ∷ rows) = by_test (has l row) refl (signs_cut l rows) where
  by_test : (t : Bool) → has l row ≡ t → signs_of_rows (having l rows) + signs_of_rows (others l rows) + count_having l rows ≡ signs_of_rows rows → signs_of_rows (map (cleared l) (cond t (row ∷ filter (has l) rows) (filter (has l) rows))) + signs_of_rows (cond (not t) (row ∷ others l rows) (others l rows)) + (cond t 1 0 + count_having l rows) ≡ sign_count row + signs_of_rows rows
  by_test true s ih = let c = cleared_signs l.column l.sign row s in omega arith
  by_test false s ih = omega arith

-- tasks

pub turned_last : {X : Type 0} (xs : List X) (x : X) → turned (xs ++ x ∷ []) ≡ x ∷ turned xs
turned_last [] x = refl
turned_last (y ∷ xs) x = ap (λ l. l ++ y ∷ []) (turned_last xs x)

turned_length : {X : Type 0} (xs : List X) → length (turned xs) ≡ length xs
turned_length [] = refl
turned_length (x ∷ xs) = let e = turned_length xs in let l = length-append (turned xs) (x ∷ []) in omega arith

pub tasks_kept : (columns : ℕ) (a b : List Form) (tasks : List Task) → HasMore a b → AllByRecursion (TaskFits (length a) columns) tasks → map (plain_task b) tasks ≡ map (plain_task a) tasks
tasks_kept columns a b [] h fit = refl
tasks_kept columns a b (Factor rows ∷ tasks) h (p, fit) = ap (λ l. factor_rows rows.items ∷ l) (tasks_kept columns a b tasks h fit)
tasks_kept columns a b (Join l ∷ tasks) h (p, fit) = ap₂ (λ f ts. join_under f ∷ ts) (form_kept a b l h p) (tasks_kept columns a b tasks h fit)

pub tasks_fit : (columns : ℕ) (a b : List Form) (tasks : List Task) → HasMore a b → AllByRecursion (TaskFits (length a) columns) tasks → AllByRecursion (TaskFits (length b) columns) tasks
tasks_fit columns a b [] h fit = tt
tasks_fit columns a b (Factor rows ∷ tasks) h (p, fit) = (p, tasks_fit columns a b tasks h fit)
tasks_fit columns a b (Join l ∷ tasks) h (p, fit) = (let le = more_length a b h in omega arith, tasks_fit columns a b tasks h fit)

pub below_front : (n : ℕ) (xs ys : List ℕ) → AreBelow n (xs ++ ys) → AreBelow n xs
below_front n [] ys a = tt
below_front n (x ∷ xs) ys (p, a) = (p, below_front n xs ys a)

pub below_last : (n : ℕ) (xs : List ℕ) (x : ℕ) → AreBelow n (xs ++ x ∷ []) → x / 2 < n
below_last n [] x (p, a) = p
below_last n (y ∷ xs) x (p, a) = below_last n xs x a

pub weights_last : (tasks : List Task) (t : Task) → weights (tasks ++ t ∷ []) ≡ weights tasks + weight t
weights_last [] t = omega arith
weights_last (u ∷ tasks) t = let e = weights_last tasks t in omega arith

module _ (width : ℕ) (fs : List Form) (fanins : List ℕ) (goal : List Form) where
  abbrev Works : Table → List Task → List ℕ → Type 0
  Works now tasks done = IsWorking width fs fanins now tasks done goal

  plain_last : (forms : List Form) (tasks : List Task) (t : Task) → turned (map (plain_task forms) (tasks ++ t ∷ [])) ≡ plain_task forms t ∷ turned (map (plain_task forms) tasks)
  plain_last forms tasks t = ap turned (map-append (plain_task forms) tasks (t ∷ [])) ∙ turned_last (map (plain_task forms) tasks) (plain_task forms t)

  done_last : (forms : List Form) (done : List ℕ) (n : ℕ) → turned (forms_at forms (done ++ n ∷ [])) ≡ form_of forms n ∷ turned (forms_at forms done)
  done_last forms done n = ap turned (map-append (form_of forms) done (n ∷ [])) ∙ turned_last (forms_at forms done) (form_of forms n)

  -- rows without a shared literal
  pub work_summed : (now next : Table) (tasks : List Task) (done done' : List ℕ) (rows : Vec (List (Option Bool)) Global) (n : ℕ) → Works now (tasks ++ Factor rows ∷ []) done → shared_literal (length fs) rows.items ≡ None → IsMadeAs now next n (sum_of_products width fs rows.items) → done' ≡ done ++ n ∷ [] → Works next tasks done'
  work_summed now next tasks done done' rows n w none m e = subst (Works next tasks) (sym e) (record {
    fanins_below = below_kept_more (made now) (made next) fanins m.more w.fanins_below;
    fanins_are = forms_kept (made now) (made next) fanins m.more w.fanins_below ∙ w.fanins_are;
    done_below = below_append (length (made next)) done (n ∷ []) (below_kept_more (made now) (made next) done m.more w.done_below) (m.within, tt);
    fit = tasks_fit (length fanins) (made now) (made next) tasks m.more (all_front (TaskFits (length (made now)) (length fanins)) tasks (Factor rows ∷ []) w.fit);
    same =
        let kept = tasks_kept (length fanins) (made now) (made next) tasks m.more (all_front (TaskFits (length (made now)) (length fanins)) tasks (Factor rows ∷ []) w.fit) in
        let step : form_of (made next) n ≡ factored width fs rows.items = m.is ∙ sym (factored_step fs width rows.items ∙ ap (factored_by (factored width fs) width fs rows.items) none) in
        ap (outcome width fs (turned (map (plain_task (made next)) tasks))) (done_last (made next) done n)
        ∙ (ap₂ (λ ts ds. outcome width fs (turned ts) ds) kept (ap₂ (λ f ds. f ∷ turned ds) step (forms_kept (made now) (made next) done m.more w.done_below))
        ∙ (ap (λ ts. outcome width fs ts (turned (forms_at (made now) done))) (sym (plain_last (made now) tasks (Factor rows))) ∙ w.same));
  })

  -- rows with a shared literal
  pub work_cut : (now : Table) (tasks new : List Task) (done : List ℕ) (rows with_rows without_rows : Vec (List (Option Bool)) Global) (l : laws.Literal) (n : ℕ) → Works now (tasks ++ Factor rows ∷ []) done → shared_literal (length fs) rows.items ≡ Some l → with_rows.items ≡ having l rows.items → without_rows.items ≡ others l rows.items → n / 2 < length (made now) → form_of (made now) n ≡ literal_form fs l → new ≡ ((tasks ++ Join n ∷ []) ++ Factor without_rows ∷ []) ++ Factor with_rows ∷ [] → Works now new done
  work_cut now tasks new done rows with_rows without_rows l n w shared y o lt is e = subst (λ ts. Works now ts done) (sym e) (record {
    fanins_below = w.fanins_below;
    fanins_are = w.fanins_are;
    done_below = w.done_below;
    fit =
        all_append (TaskFits (length (made now)) (length fanins)) ((tasks ++ Join n ∷ []) ++ Factor without_rows ∷ []) (Factor with_rows ∷ [])
        (all_append (TaskFits (length (made now)) (length fanins)) (tasks ++ Join n ∷ []) (Factor without_rows ∷ []) (all_append (TaskFits (length (made now)) (length fanins)) tasks (Join n ∷ []) (all_front (TaskFits (length (made now)) (length fanins)) tasks (Factor rows ∷ []) w.fit) (lt, tt)) (subst (HaveColumns (length fanins)) (sym o) (columns_others l (length fanins) rows.items columns), tt))
        (subst (HaveColumns (length fanins)) (sym y) (columns_having l (length fanins) rows.items columns), tt);
    same =
        ap (λ ts. outcome width fs ts D) (plain_last (made now) ((tasks ++ Join n ∷ []) ++ Factor without_rows ∷ []) (Factor with_rows) ∙ ap (λ ts. factor_rows with_rows.items ∷ ts) (plain_last (made now) (tasks ++ Join n ∷ []) (Factor without_rows) ∙ ap (λ ts. factor_rows without_rows.items ∷ ts) (plain_last (made now) tasks (Join n))))
        ∙ (ap₂ (λ f g. outcome width fs T (disjunction width (conjunction width (f ∷ factored width fs with_rows.items ∷ []) ∷ g ∷ []) ∷ D)) is (ap (factored width fs) o)
        ∙ (ap (λ r. outcome width fs T (disjunction width (conjunction width (literal_form fs l ∷ factored width fs r ∷ []) ∷ factored width fs (others l rows.items) ∷ []) ∷ D)) y
        ∙ (ap (λ f. outcome width fs T (f ∷ D)) (sym step) ∙ (ap (λ ts. outcome width fs ts D) (sym (plain_last (made now) tasks (Factor rows))) ∙ w.same))));
  }) where
    columns : HaveColumns (length fanins) rows.items
    columns = all_last (TaskFits (length (made now)) (length fanins)) tasks (Factor rows) w.fit

    T : List PlainTask
    T = turned (map (plain_task (made now)) tasks)

    D : List Form
    D = turned (forms_at (made now) done)

    step : factored width fs rows.items ≡ disjunction width (conjunction width (literal_form fs l ∷ factored width fs (having l rows.items) ∷ []) ∷ factored width fs (others l rows.items) ∷ [])
    step = factored_step fs width rows.items ∙ ap (factored_by (factored width fs) width fs rows.items) shared

  -- the two forms made last are joined
  pub work_joined : (now next : Table) (tasks : List Task) (done new front : List ℕ) (l q r n : ℕ) → Works now (tasks ++ Join l ∷ []) done → done ≡ (front ++ q ∷ []) ++ r ∷ [] → IsMadeAs now next n (disjunction width (conjunction width (form_of (made now) l ∷ form_of (made now) q ∷ []) ∷ form_of (made now) r ∷ [])) → new ≡ front ++ n ∷ [] → Works next tasks new
  work_joined now next tasks done new front l q r n w d m e = subst (Works next tasks) (sym e) (record {
    fanins_below = below_kept_more (made now) (made next) fanins m.more w.fanins_below;
    fanins_are = forms_kept (made now) (made next) fanins m.more w.fanins_below ∙ w.fanins_are;
    done_below = below_append (length (made next)) front (n ∷ []) (below_kept_more (made now) (made next) front m.more front_below) (m.within, tt);
    fit = tasks_fit (length fanins) (made now) (made next) tasks m.more fit;
    same =
        ap (outcome width fs (turned (map (plain_task (made next)) tasks))) (done_last (made next) front n)
        ∙ (ap₂ (λ ts ds. outcome width fs (turned ts) ds) (tasks_kept (length fanins) (made now) (made next) tasks m.more fit) (ap₂ (λ f ds. f ∷ turned ds) m.is (forms_kept (made now) (made next) front m.more front_below))
        ∙ (sym (ap₂ (outcome width fs) (plain_last (made now) tasks (Join l)) (ap (λ k. turned (forms_at (made now) k)) d ∙ (done_last (made now) (front ++ q ∷ []) r ∙ ap (λ k. form_of (made now) r ∷ k) (done_last (made now) front q)))) ∙ w.same));
  }) where
    fit : AllByRecursion (TaskFits (length (made now)) (length fanins)) tasks
    fit = all_front (TaskFits (length (made now)) (length fanins)) tasks (Join l ∷ []) w.fit

    front_below : AreBelow (length (made now)) front
    front_below = below_front (length (made now)) front (q ∷ []) (below_front (length (made now)) (front ++ q ∷ []) (r ∷ []) (subst (AreBelow (length (made now))) d w.done_below))

-- two forms are there to be joined
pub two_done : (width : ℕ) (fs : List Form) (fanins : List ℕ) (f : Form) (now : Table) (tasks : List Task) (done : List ℕ) (l : ℕ) → IsWorking width fs fanins now (tasks ++ Join l ∷ []) done (f ∷ []) → 2 ≤ length done
two_done width fs fanins f now tasks done l w =
    let n = turned_length (forms_at (made now) done) in
    let m = length-map done (form_of (made now)) in
    let k = two (turned (map (plain_task (made now)) tasks)) (form_of (made now) l) (turned (forms_at (made now) done)) (ap (λ ts. outcome width fs ts (turned (forms_at (made now) done))) (sym (ap turned (map-append (plain_task (made now)) tasks (Join l ∷ [])) ∙ turned_last (map (plain_task (made now)) tasks) (join_under (form_of (made now) l)))) ∙ w.same) in
    omega arith
  where
    two : (T : List PlainTask) (g : Form) (ds : List Form) → outcome width fs (join_under g ∷ T) ds ≡ f ∷ [] → 2 ≤ length ds
    two T g [] e = cc
    two T g (r ∷ []) e = cc
    two T g (r ∷ q ∷ ds) e = omega arith

pub join_below : (width : ℕ) (fs : List Form) (fanins : List ℕ) (goal : List Form) (now : Table) (tasks : List Task) (done : List ℕ) (l : ℕ) → IsWorking width fs fanins now (tasks ++ Join l ∷ []) done goal → l / 2 < length (made now)
join_below width fs fanins goal now tasks done l w = all_last (TaskFits (length (made now)) (length fanins)) tasks (Join l) w.fit

pub factor_columns : (width : ℕ) (fs : List Form) (fanins : List ℕ) (goal : List Form) (now : Table) (tasks : List Task) (done : List ℕ) (rows : Vec (List (Option Bool)) Global) → IsWorking width fs fanins now (tasks ++ Factor rows ∷ []) done goal → HaveColumns (length fanins) rows.items
factor_columns width fs fanins goal now tasks done rows w = all_last (TaskFits (length (made now)) (length fanins)) tasks (Factor rows) w.fit

pub work_first : (width : ℕ) (t : Table) (fanins : List ℕ) (tasks : List Task) (done : List ℕ) (rows : Vec (List (Option Bool)) Global) → AreBelow (length (made t)) fanins → HaveColumns (length fanins) rows.items → tasks ≡ [] ++ Factor rows ∷ [] → done ≡ [] → IsWorking width (forms_at (made t) fanins) fanins t tasks done (factored width (forms_at (made t) fanins) rows.items ∷ [])
work_first width t fanins tasks done rows below columns e d = subst (λ ts. IsWorking width (forms_at (made t) fanins) fanins t ts done (factored width (forms_at (made t) fanins) rows.items ∷ [])) (sym e) (subst (λ ds. IsWorking width (forms_at (made t) fanins) fanins t (Factor rows ∷ []) ds (factored width (forms_at (made t) fanins) rows.items ∷ [])) (sym d) (record {
  fanins_below = below;
  fanins_are = refl;
  done_below = tt;
  fit = (columns, tt);
  same = refl;
}))

-- the one form that is left
pub work_last : (width : ℕ) (fs : List Form) (fanins : List ℕ) (f : Form) (old now : Table) (done front : List ℕ) (n : ℕ) (tasks : List Task) → HasMore (made old) (made now) → IsWorking width fs fanins now tasks done (f ∷ []) → tasks ≡ [] → done ≡ front ++ n ∷ [] → IsMadeAs old now n f
work_last width fs fanins f old now done front n tasks more w e d = record {
  more = more;
  within = below_last (length (made now)) front n (subst (AreBelow (length (made now))) d w.done_below);
  is = one (form_of (made now) n) (turned (forms_at (made now) front)) (sym (ap (λ k. turned (forms_at (made now) k)) d ∙ (ap turned (map-append (form_of (made now)) front (n ∷ [])) ∙ turned_last (forms_at (made now) front) (form_of (made now) n))) ∙ (ap (λ ts. outcome width fs (turned (map (plain_task (made now)) ts)) (turned (forms_at (made now) done))) (sym e) ∙ w.same));
} where
  one : (g : Form) (gs : List Form) → g ∷ gs ≡ f ∷ [] → g ≡ f
  one g gs e = cc

pub some_done : (width : ℕ) (fs : List Form) (fanins : List ℕ) (f : Form) (now : Table) (tasks : List Task) (done : List ℕ) → IsWorking width fs fanins now tasks done (f ∷ []) → tasks ≡ [] → 1 ≤ length done
some_done width fs fanins f now tasks done w e = some done (ap (λ ts. outcome width fs (turned (map (plain_task (made now)) ts)) (turned (forms_at (made now) done))) (sym e) ∙ w.same) where
  some : (ds : List ℕ) → turned (forms_at (made now) ds) ≡ f ∷ [] → 1 ≤ length ds
  some [] e = cc
  some (d ∷ ds) e = omega arith

-- the weight of the tasks falls
pub weight_cut : (tasks new : List Task) (rows with_rows without_rows : Vec (List (Option Bool)) Global) (columns n : ℕ) (l : laws.Literal) → shared_literal columns rows.items ≡ Some l → with_rows.items ≡ having l rows.items → without_rows.items ≡ others l rows.items → new ≡ ((tasks ++ Join n ∷ []) ++ Factor without_rows ∷ []) ++ Factor with_rows ∷ [] → weights new < weights tasks + weight (Factor rows)
weight_cut tasks new rows with_rows without_rows columns n l shared y o e =
    let a = ap weights e in
    let b = weights_last ((tasks ++ Join n ∷ []) ++ Factor without_rows ∷ []) (Factor with_rows) in
    let c = weights_last (tasks ++ Join n ∷ []) (Factor without_rows) in
    let d = weights_last tasks (Join n) in
    let s = signs_cut l rows.items in
    let yy = ap signs_of_rows y in
    let oo = ap signs_of_rows o in
    let k = (shared_in rows.items columns l shared).rows_have in
    omega arith

pub join_made : (width : ℕ) (old mid new : Table) (l q r b n : ℕ) → IsMadeAs old mid b (conjunction width (forms_at (made old) (l ∷ q ∷ []))) → IsMadeAs mid new n (disjunction width (forms_at (made mid) (b ∷ r ∷ []))) → r / 2 < length (made old) → IsMadeAs old new n (disjunction width (conjunction width (form_of (made old) l ∷ form_of (made old) q ∷ []) ∷ form_of (made old) r ∷ []))
join_made width old mid new l q r b n m k lt = record {
  more = more_twice (made old) (made mid) (made new) m.more k.more;
  within = k.within;
  is = k.is ∙ ap₂ (λ f g. disjunction width (f ∷ g ∷ [])) m.is (form_kept (made old) (made mid) r m.more lt);
}

-- what `begin` owes

fanin_count : (width : ℕ) (fs : List Form) (fanins : List ℕ) (goal : List Form) (now : Table) (tasks : List Task) (done : List ℕ) → IsWorking width fs fanins now tasks done goal → length fanins ≡ length fs
fanin_count width fs fanins goal now tasks done w = let m = length-map fanins (form_of (made now)) in let e = ap length w.fanins_are in omega arith

pub begun_none : (width : ℕ) (now next : Table) (fanins : List ℕ) (tasks : List Task) (done new : List ℕ) (rows : Vec (List (Option Bool)) Global) (seen summed : List (List (Option Bool))) (n : ℕ) → seen ≡ rows.items → summed ≡ rows.items → None ≡ shared_literal (length fanins) seen → IsMadeAs now next n (sum_of_products width (forms_at (made now) fanins) summed) → new ≡ done ++ n ∷ [] → (fs goal : List Form) → IsWorking width fs fanins now (tasks ++ Factor rows ∷ []) done goal → IsWorking width fs fanins next tasks new goal
begun_none width now next fanins tasks done new rows seen summed n s t none m e fs goal w =
    work_summed width fs fanins goal now next tasks done new rows n w
    (ap₂ shared_literal (sym (fanin_count width fs fanins goal now (tasks ++ Factor rows ∷ []) done w)) (sym s) ∙ sym none)
    (subst (IsMadeAs now next n) (ap₂ (sum_of_products width) w.fanins_are t) m) e

read_map : (h : ℕ → Form) (ids : List ℕ) (i : ℕ) (d : Form) → i < length ids → get_or (map h ids) i d ≡ h (get_or ids i 0)
read_map h [] i d lt = absurd (omega arith)
read_map h (x ∷ ids) zero d lt = refl
read_map h (x ∷ ids) (suc i) d lt = read_map h ids i d (omega arith)

pub below_at : (n : ℕ) (ids : List ℕ) (i : ℕ) → i < length ids → AreBelow n ids → get_or ids i 0 / 2 < n
below_at n [] i lt a = absurd (omega arith)
below_at n (x ∷ ids) zero lt (p, a) = p
below_at n (x ∷ ids) (suc i) lt (p, a) = below_at n ids i (omega arith) a

pub signed_below : (n : ℕ) (sign : Bool) (f : ℕ) → f / 2 < n → signed_number sign f / 2 < n
signed_below n true f lt = lt
signed_below n false f lt = below_other n f lt

pub begun_some : (width : ℕ) (now : Table) (fanins : List ℕ) (tasks new : List Task) (done : List ℕ) (rows with_rows without_rows : Vec (List (Option Bool)) Global) (seen : List (List (Option Bool))) (l : Literal) (n : ℕ) → AreMade (made now) → AreBelow (length (made now)) fanins → seen ≡ rows.items → Some (plain_literal l) ≡ shared_literal (length fanins) seen → with_rows.items ≡ having (plain_literal l) rows.items → without_rows.items ≡ others (plain_literal l) rows.items → n ≡ signed_number l.sign (get_or fanins l.column 0) → new ≡ ((tasks ++ Join n ∷ []) ++ Factor without_rows ∷ []) ++ Factor with_rows ∷ [] → (fs goal : List Form) → IsWorking width fs fanins now (tasks ++ Factor rows ∷ []) done goal → IsWorking width fs fanins now new done goal
begun_some width now fanins tasks new done rows with_rows without_rows seen l n are below s some y o is e fs goal w =
    let shared : shared_literal (length fs) rows.items ≡ Some (plain_literal l) = ap₂ shared_literal (sym (fanin_count width fs fanins goal now (tasks ++ Factor rows ∷ []) done w)) (sym s) ∙ sym some in
    let column = (shared_in seen (length fanins) (plain_literal l) (sym some)).column in
    let lt = below_at (length (made now)) fanins l.column column below in
    work_cut width fs fanins goal now tasks new done rows with_rows without_rows (plain_literal l) n w shared y o
    (subst (λ k. k / 2 < length (made now)) (sym is) (signed_below (length (made now)) l.sign (get_or fanins l.column 0) lt))
    (ap (form_of (made now)) is ∙ (signed_form (made now) are l.sign (get_or fanins l.column 0) lt ∙ ap (signed l.sign) (sym (read_map (form_of (made now)) fanins l.column true_form column) ∙ ap (λ k. get_or k l.column true_form) w.fanins_are)))
    e

pub shared_column : (rows seen : List (List (Option Bool))) (columns : ℕ) (l : Literal) → seen ≡ rows → Some (plain_literal l) ≡ shared_literal columns seen → l.column < columns
shared_column rows seen columns l s e = (shared_in seen columns (plain_literal l) (sym e)).column

-- where no literal is shared, the factored form is the sum of products

pub one_shared : (columns : ℕ) (row : List (Option Bool)) (rows : List (List (Option Bool))) → rows ≡ row ∷ [] → shared_literal columns rows ≡ None
one_shared columns row rows e = by_test (shared_literal columns rows) refl where
  by_test : (o : Option laws.Literal) → shared_literal columns rows ≡ o → o ≡ None
  by_test None s = refl
  by_test (Some l) s = absurd (too_few (has l row) (subst (λ r. 1 < count_having l r) e (shared_in rows columns l s).rows_have)) where
    too_few : (t : Bool) → 1 < cond t 1 0 + 0 → ⊥
    too_few true lt = omega arith
    too_few false lt = omega arith

pub flat_made : (width : ℕ) (old new : Table) (fanins : List ℕ) (rows : List (List (Option Bool))) (n : ℕ) → shared_literal (length fanins) rows ≡ None → IsMadeAs old new n (sum_of_products width (forms_at (made old) fanins) rows) → IsMadeAs old new n (factored width (forms_at (made old) fanins) rows)
flat_made width old new fanins rows n none m =
    let fs : List Form = forms_at (made old) fanins in
    let columns : length fs ≡ length fanins = length-map fanins (form_of (made old)) in
    subst (IsMadeAs old new n) (sym (factored_step fs width rows ∙ ap (factored_by (factored width fs) width fs rows) (ap (λ k. shared_literal k rows) columns ∙ none))) m

pub factored_made : (width : ℕ) (old mid new : Table) (fanins : List ℕ) (rows : List (List (Option Bool))) (n : ℕ) → HasMore (made old) (made mid) → AreBelow (length (made old)) fanins → IsMadeAs mid new n (factored width (forms_at (made mid) fanins) rows) → IsMadeAs old new n (factored width (forms_at (made old) fanins) rows)
factored_made width old mid new fanins rows n more below m = record {
  more = more_twice (made old) (made mid) (made new) more m.more;
  within = m.within;
  is = m.is ∙ ap (λ l. factored width l rows) (forms_kept (made old) (made mid) fanins more below);
}
