-- Classes of the coflows of a table, and the schedule that serves their order.
use Rattle.std.proofs.Common.{◌≡◌, ℕ, ◌≤◌, ◌<◌, List, [], ◌∷◌, get_or, length, map, refl, sym, subst, ap, ◌∙◌, arith}
use Rattle.std.specs.Prelude.{All, Contains, slice_index}
use Rattle.std.specs.List.{range_with_len}
use Rattle.std.proofs.lemmas.List.Elements.{All-head, All-tail, All-weaker}
use Rattle.class_rates.specs.Cap.{cap}
use Rattle.class_rates.specs.Classes.{ClassFacts, IsClassOrder, IsFolded, IsPermutation, class_by, class_of, size_by}
use Rattle.class_rates.specs.declared.fold.Fold.{Fold}
use Rattle.class_rates.proofs.CapSame.{cap_folded}
use Rattle.class_rates.proofs.ClassLaw.{cost_law}
use Rattle.class_rates.proofs.ClassOrders.{served_law}
use Rattle.coflow_units.specs.declared.fabric.Flow.{Flow}
use Rattle.coflow_units.specs.Flows.{coflow_of}
use Rattle.coflow_units.specs.Schedule.{IsClear}
use Rattle.coflow_units.specs.Served.{IsServed}
use Rattle.coflow_units.proofs.Lists.{number_in}
use Rattle.coflow_units.proofs.Ranges.{in_range}
use Rattle.coflow_units.proofs.ServedLaws.{served_valid}
use Rattle.flow_table.specs.Table.{IsTable, TableFacts, instance_of}
use Rattle.flow_table.proofs.Whole.{whole}
use Rattle.rankers.specs.ByKey.{key_in}
use Rattle.rankers.specs.FactsTold.{FactsTold, IsFacts, IsFactsOf}
use Rattle.report_text.specs.declared.classed.ClassText.{ClassText}
use Rattle.report_text.specs.declared.classed.Member.{Member}
use Rattle.rankers.specs.ClassList.{IsClassList, IsListOf, class_of_facts, member_of}

-- a class order of the numbers below n has these alone, and each of them
module _ (line : List ℕ) (class : ℕ → ℕ) (many n : ℕ) where
  pub line_known : many ≡ n → IsClassOrder (range_with_len 0 many) class line → All (λ c. c < n) line
  line_known same is = All-weaker (Contains (range_with_len 0 many)) (λ c. c < n) (λ c has. omega (arith, same, in_range many c has)) line is.coflow

  pub line_all : many ≡ n → IsClassOrder (range_with_len 0 many) class line → (c : ℕ) → c < n → Contains line c
  line_all same is c lt = is.all c (number_in 0 many c (omega arith) (omega (arith, lt, same)))

pub served_names : (flows : List Flow) (line : List ℕ) (slots : List (List ℕ)) → IsServed flows line slots → All (All (λ f. f < length flows)) slots
served_names flows line slots served =
    All-weaker (IsClear flows) (All (λ f. f < length flows)) (λ slot clear. clear.flow) slots (served_valid flows line slots served).clear

-- classes that are the same for the coflows of an order give the same members
pub members_same : (ids order line : List ℕ) (class other : ℕ → ℕ) → ((c : ℕ) → Contains order c → other c ≡ class c) → All (Contains order) line →
    map (member_of other ids) line ≡ map (member_of class ids) line
members_same ids order [] class other same known = refl
members_same ids order (c ∷ line) class other same known =
    ap (λ (q : ℕ). record { class_number = q; id = slice_index ids c } ∷ map (member_of other ids) line) (same c (All-head (Contains order) c line known)) ∙
    ap (λ (l : List Member). member_of class ids c ∷ l) (members_same ids order line class other same (All-tail (Contains order) c line known))

-- a coflow of the class order is one of the numbers below n
pub known_at : (n : ℕ) (order lent : List ℕ) (k : ℕ) → All (Contains (range_with_len 0 n)) order → lent ≡ order → k < length lent → get_or lent k 0 < n
known_at n order lent k known same lt = in_range n (get_or lent k 0) (subst (All (Contains (range_with_len 0 n))) (sym same) known k 0 lt)

cap_for : (size : ℕ → ℕ) (flows : List Flow) (weight : ℕ → ℕ) (order : List ℕ) (classes : ℕ) (folded : ClassFacts) (n : ℕ) → length order ≡ n → IsPermutation order →
    IsFolded size order classes folded →
    cap flows weight (range_with_len 0 n) (class_of folded) ≡ cap flows weight (range_with_len 0 n) (class_by size order classes)
cap_for size flows weight order classes folded n same perm is =
    subst (λ k. cap flows weight (range_with_len 0 k) (class_of folded) ≡ cap flows weight (range_with_len 0 k) (class_by size order classes)) same
    (cap_folded size flows weight order classes folded perm is)

pub as_many : (t : TableFacts) (weights : List ℕ) (facts : FactsTold) → length weights ≡ length t.ids → IsFacts facts → IsFactsOf t weights facts → length facts.order ≡ length t.ids
as_many t weights facts count fit are = fit.order_len ∙ ap (λ (xs : List ℕ). length xs) are.weights_are ∙ count

module _ (t : TableFacts) (weights : List ℕ) (by : Fold) (classes : ℕ) (facts : FactsTold) (folded : ClassFacts) (c : ClassText) where
  -- the classes are folded from what the order and the loads of the facts are
  pub folded_facts : (order loads : List ℕ) → order ≡ facts.order → loads ≡ facts.bottlenecks → IsFolded (size_by by (key_in loads)) order classes folded →
      IsFolded (size_by by (key_in facts.bottlenecks)) facts.order classes folded
  folded_facts order loads is_order is_loads is =
      subst (λ (xs : List ℕ). IsFolded (size_by by (key_in facts.bottlenecks)) xs classes folded) is_order
      (subst (λ (xs : List ℕ). IsFolded (size_by by (key_in xs)) order classes folded) is_loads is)

  covers : IsTable t → IsFacts facts → length facts.order ≡ length t.ids → (f : ℕ) → f < length t.flows → Contains facts.order (coflow_of t.flows f)
  covers table fit same f lt =
      fit.order_is.all (coflow_of t.flows f) (omega (arith, same, table.coflow f record { coflow = 0; ingress = 0; egress = 0; units = 0 } lt))

  pub listed : IsTable t → length weights ≡ length t.ids → All (λ w. 1 ≤ w) weights → IsFacts facts → IsFactsOf t weights facts →
      IsFolded (size_by by (key_in facts.bottlenecks)) facts.order classes folded → IsListOf t weights folded c → IsClassList t weights by classes c
  listed table count least fit are fold list =
      let class : ℕ → ℕ = class_of_facts facts by classes in
      let size : ℕ → ℕ = size_by by (key_in facts.bottlenecks) in
      let same = as_many t weights facts count fit are in
      let patient = served_law t.flows facts.order class folded.order list.slots fold.order_is (covers table fit same) list.served in
      let cap_is : c.cap ≡ cap t.flows (λ k. slice_index weights k) (range_with_len 0 (length t.ids)) class =
      list.cap_is ∙ cap_for size t.flows (λ k. slice_index weights k) facts.order classes folded (length t.ids) same fit.order_is fold in
      record {
        facts = facts;
        facts_hold = fit;
        facts_are = are;
        line = folded.order;
        line_is = fold.order_is;
        slots = list.slots;
        served = list.served;
        patient = patient;
        members_are = list.members_are ∙ members_same t.ids facts.order folded.order class (class_of folded) (λ d has. fold.class_is d has) fold.order_is.coflow;
        cap_is = cap_is;
        cost_is = list.cost_is;
        within = omega (
          arith,
          list.cost_is,
          cap_is,
          cost_law (instance_of t weights) class list.slots (whole t weights table count least).instance
              (served_valid t.flows folded.order list.slots list.served) patient,
        );
        runs_are = list.runs_are;
      }
