-- The list of files under a change of one of them.
use Rattle.std.proofs.Common.{◌≡◌, ◌≢◌, ℕ, ◌+◌, ◌-◌, ◌^◌, ◌<◌, ◌≤◌, inl, inr, Bool, true, false, List, [], ◌∷◌, ◌++◌, length, take, drop, get_or, refl, sym, ◌∙◌, ap, arith, cond}
use Rattle.std.proofs.Math.ListN.{set, drop_of_length-le}
use Rattle.std.specs.Prelude.{◌↔◌, nat_eq, string_bytes, min}
use Rattle.std.specs.Cmp.Lexicographic.{pointwise, bytes_decides}
use Rattle.std.proofs.lemmas.List.{get_or-map, get_or-set_other, get_or_append_left, get_or_past, length-append, length-map, length-set}
use Rattle.std.proofs.lemmas.List.{length-take-le, map-append, map-set}
use Rattle.std.proofs.lemmas.List.{drop-drop, take-append-le, take-take, take-append-drop, nil_from_length}
use Rattle.std.proofs.lemmas.List.Folds.{position_or_len_push}
use Rattle.std.proofs.lemmas.List.Sums.{passes_at_first, position_or_len_is, prefix_len-le-length}
use Rattle.std.proofs.lemmas.Bool.{false≢true}
use Rattle.std.proofs.lemmas.Bool.Decides.{eqb_tells}
use Rattle.std.proofs.lemmas.Grind.{common_steps, get_or-set_at}
use Rattle.std.proofs.Math.Seq.{map-set_same, get_or-append_seam}
use Rattle.outside.specs.declared.files.File.{File}
use Rattle.outside.specs.Rose.{RoseOnce}
use Rattle.outside.specs.Files.{names_of, contents_of, counts_of, number_of, bytes_at, count_at, file_at, CountsName, HasNoFile, LeavesOtherNames, Puts}

pub same_names : (files : List File) (i : ℕ) (f d : File) → string_bytes f.name ≡ string_bytes (get_or files i d).name → names_of (set files i f) ≡ names_of files
same_names files i f d e = map-set_same (λ (x : File). string_bytes x.name) files i f d e

pub same_contents : (files : List File) (i : ℕ) (f d : File) → f.bytes.items ≡ (get_or files i d).bytes.items → contents_of (set files i f) ≡ contents_of files
same_contents files i f d e = map-set_same (λ (x : File). x.bytes.items) files i f d e

pub same_counts : (files : List File) (i : ℕ) (f d : File) → f.faults ≡ (get_or files i d).faults → counts_of (set files i f) ≡ counts_of files
same_counts files i f d e = map-set_same (λ (x : File). x.faults) files i f d e

count_of : (files : List File) (i missing : ℕ) (d : File) → i < length files → count_at (counts_of files) missing i ≡ (get_or files i d).faults
count_of files i missing d inside = get_or-map (λ (x : File). x.faults) files i d missing inside

set_count : (files : List File) (i missing : ℕ) (f : File) → i < length files → count_at (counts_of (set files i f)) missing i ≡ f.faults
set_count files i missing f inside =
    let there : i < length (counts_of files) = rw (length-map files (λ (x : File). x.faults)) inside in
    rw (map-set (λ (x : File). x.faults) files i f) (get_or-set_at (counts_of files) i i f.faults missing refl there)

other_count : (files : List File) (i missing k : ℕ) (f : File) → k ≢ i → count_at (counts_of (set files i f)) missing k ≡ count_at (counts_of files) missing k
other_count files i missing k f other = rw (map-set (λ (x : File). x.faults) files i f) (get_or-set_other (counts_of files) i k f.faults missing other)

pub later_counts : (files : List File) (i missing : ℕ) (f d : File) → i < length files → (get_or files i d).faults ≤ f.faults → (k : ℕ) →
    count_at (counts_of files) missing k ≤ count_at (counts_of (set files i f)) missing k
later_counts files i missing f d inside up k =
    elim (eqb_tells k i) [
      | inl same ↦ rw (same.1, count_of files i missing d inside, set_count files i missing f inside) up
      | inr other ↦ rw (other_count files i missing k f other.1) (omega arith)
    ]

file_inside : (files : List File) (i : ℕ) → i < length files → file_at files i ≡ i
file_inside files i inside = omega arith

pub risen_count : (files : List File) (i missing : ℕ) (f d : File) → i < length files → f.faults ≡ min ((get_or files i d).faults + 1) (2 ^ 64 - 1) →
    RoseOnce (count_at (counts_of files) missing (file_at files i)) (count_at (counts_of (set files i f)) missing (file_at files i))
risen_count files i missing f d inside up = rw (file_inside files i inside, count_of files i missing d inside, set_count files i missing f inside) up

pub kept_count : (files : List File) (i missing : ℕ) (f : File) → i < length files → (k : ℕ) → k ≢ file_at files i →
    count_at (counts_of (set files i f)) missing k ≡ count_at (counts_of files) missing k
kept_count files i missing f inside k other = other_count files i missing k f (λ same. other (same ∙ sym (file_inside files i inside)))

-- ---- names

-- the first file with a name
pub number_is : (names : List (List ℕ)) (name : List ℕ) (i : ℕ) → i ≤ length names → ((k : ℕ) → k < i → pointwise nat_eq (get_or names k []) name ≡ false) →
    (i < length names → pointwise nat_eq (get_or names i []) name ≡ true) → number_of names name ≡ i
number_is names name i within before here = position_or_len_is (λ x. pointwise nat_eq x name) names i [] within before here

name_there : (names : List (List ℕ)) (name : List ℕ) → number_of names name < length names → get_or names (number_of names name) [] ≡ name
name_there names name inside = (bytes_decides (get_or names (number_of names name) []) name).0 (passes_at_first (λ x. pointwise nat_eq x name) names [] inside)

-- other names have other files
other_number : (names : List (List ℕ)) (name n : List ℕ) → number_of names name < length names → n ≢ name → number_of names n ≢ number_of names name
other_number names name n inside differ same =
    let here : get_or names (number_of names name) [] ≡ name = name_there names name inside in
    let there : get_or names (number_of names n) [] ≡ n = name_there names n (rw same inside) in
    differ (sym there ∙ ap (λ k. get_or names k []) same ∙ here)

pub set_puts : (files : List File) (i missing : ℕ) (f d : File) (name bytes : List ℕ) → i ≡ number_of (names_of files) name → i < length files → f.bytes.items ≡ bytes →
    string_bytes f.name ≡ string_bytes (get_or files i d).name → f.faults ≡ (get_or files i d).faults → Puts files (set files i f) missing name bytes
set_puts files i missing f d name bytes at inside b nm ct = record {
  bytes_are =
      rw (names, contents) (get_or-set_at (contents_of files) i (number_of (names_of files) name) f.bytes.items [] (sym at) there ∙ b);
  others = λ n differ.
      rw (names, contents) (get_or-set_other (contents_of files) i (number_of (names_of files) n) f.bytes.items [] (elsewhere n differ));
  faults = λ n. rw (names, same_counts files i f d ct) refl;
}
  where
    names : names_of (set files i f) ≡ names_of files
    names = same_names files i f d nm

    contents : contents_of (set files i f) ≡ set (contents_of files) i f.bytes.items
    contents = map-set (λ (x : File). x.bytes.items) files i f

    there : i < length (contents_of files)
    there = rw (length-map files (λ (x : File). x.bytes.items)) inside

    elsewhere : (n : List ℕ) → n ≢ name → number_of (names_of files) n ≢ i
    elsewhere n differ same =
        let within : number_of (names_of files) name < length (names_of files) = rw (length-map files (λ (x : File). string_bytes x.name), ← at) inside in
        other_number (names_of files) name n within differ (same ∙ at)

-- where a name stands after another was put at the end
data Stands (names : List (List ℕ)) (name n : List ℕ) : Type 0 where
  before : number_of names n < length names → number_of (names ++ name ∷ []) n ≡ number_of names n → Stands names name n
  at_end : number_of names n ≡ length names → n ≡ name → number_of (names ++ name ∷ []) n ≡ length names → Stands names name n
  nowhere : number_of names n ≡ length names → n ≢ name → number_of (names ++ name ∷ []) n ≡ length names + 1 → Stands names name n

stands : (names : List (List ℕ)) (name n : List ℕ) → Stands names name n
stands names name n =
    let push = position_or_len_push (λ x. pointwise nat_eq x n) names name in
    let within : number_of names n ≤ length names = prefix_len-le-length _ names in
    elim (eqb_tells (number_of names n) (length names)) [
      | inl end ↦ at_the_end end.1 (rw end.0 at push)
      | inr inside ↦ before (omega (arith, within, inside.1)) (rw inside.0 at push)
    ]
  where
    at_the_end : number_of names n ≡ length names → number_of (names ++ name ∷ []) n ≡ length names + cond (pointwise nat_eq name n) 0 1 → Stands names name n
    at_the_end end push = by (pointwise nat_eq name n) refl
      where
        by : (b : Bool) → pointwise nat_eq name n ≡ b → Stands names name n
        by true e =
            let last : number_of (names ++ name ∷ []) n ≡ length names + 0 = rw e at push in
            at_end end (sym ((bytes_decides name n).0 e)) (omega arith)
        by false e = nowhere end (λ same. false≢true (sym e ∙ (bytes_decides name n).1 (sym same))) (rw e at push)

read_before : {X : Type 0} (xs : List X) (y d : X) (i j : ℕ) → j ≡ i → i < length xs → get_or (xs ++ y ∷ []) j d ≡ get_or xs i d
read_before xs y d i j same inside = rw same (get_or_append_left xs (y ∷ []) d i inside)

read_last : {X : Type 0} (xs : List X) (y d : X) (j : ℕ) → j ≡ length xs → get_or (xs ++ y ∷ []) j d ≡ y
read_last xs y d j same = rw same (get_or-append_seam xs y [] d)

read_past : {X : Type 0} (xs : List X) (y d : X) (i j : ℕ) → i ≡ length xs → j ≡ length xs + 1 → get_or (xs ++ y ∷ []) j d ≡ get_or xs i d
read_past xs y d i j at same =
    let long : length (xs ++ y ∷ []) ≤ j = rw (length-append xs (y ∷ [])) (omega arith) in
    get_or_past (xs ++ y ∷ []) j d long ∙ sym (get_or_past xs i d (omega arith))

pub push_puts : (files : List File) (missing : ℕ) (f : File) (name bytes : List ℕ) → length files ≤ number_of (names_of files) name → f.bytes.items ≡ bytes →
    string_bytes f.name ≡ name → f.faults ≡ missing →
    Puts files (files ++ f ∷ []) missing name bytes
push_puts files missing f name bytes absent b nm ct = record {
  bytes_are = rw (names, contents) (by_name (stands N name name));
  others = λ n differ. rw (names, contents) (by_other n differ (stands N name n));
  faults = λ n. rw (names, counts) (by_count n (stands N name n));
}
  where
    N : List (List ℕ)
    N = names_of files

    names : names_of (files ++ f ∷ []) ≡ names_of files ++ name ∷ []
    names = map-append (λ (x : File). string_bytes x.name) files (f ∷ []) ∙ ap (λ v. names_of files ++ v ∷ []) nm

    contents : contents_of (files ++ f ∷ []) ≡ contents_of files ++ bytes ∷ []
    contents = map-append (λ (x : File). x.bytes.items) files (f ∷ []) ∙ ap (λ v. contents_of files ++ v ∷ []) b

    counts : counts_of (files ++ f ∷ []) ≡ counts_of files ++ missing ∷ []
    counts = map-append (λ (x : File). x.faults) files (f ∷ []) ∙ ap (λ v. counts_of files ++ v ∷ []) ct

    many : length N ≡ length files
    many = length-map files (λ (x : File). string_bytes x.name)

    many_contents : length (contents_of files) ≡ length files
    many_contents = length-map files (λ (x : File). x.bytes.items)

    many_counts : length (counts_of files) ≡ length files
    many_counts = length-map files (λ (x : File). x.faults)

    by_name : Stands N name name → bytes_at (contents_of files ++ bytes ∷ []) (number_of (N ++ name ∷ []) name) ≡ bytes
    by_name (before inside at) = absurd (omega (arith, many, inside, absent))
    by_name (at_end end same at) = read_last (contents_of files) bytes [] _ (omega (arith, at, many, many_contents))
    by_name (nowhere end differ at) = absurd (differ refl)

    by_other : (n : List ℕ) → n ≢ name → Stands N name n → bytes_at (contents_of files ++ bytes ∷ []) (number_of (N ++ name ∷ []) n) ≡ bytes_at (contents_of files) (number_of N n)
    by_other n differ (before inside at) = read_before (contents_of files) bytes [] _ _ at (omega (arith, inside, many, many_contents))
    by_other n differ (at_end end same at) = absurd (differ same)
    by_other n differ (nowhere end other at) = read_past (contents_of files) bytes [] _ _ (omega (arith, end, many, many_contents)) (omega (arith, at, many, many_contents))

    by_count : (n : List ℕ) → Stands N name n →
        count_at (counts_of files ++ missing ∷ []) missing (number_of (N ++ name ∷ []) n) ≡ count_at (counts_of files) missing (number_of N n)
    by_count n (before inside at) = read_before (counts_of files) missing missing _ _ at (omega (arith, inside, many, many_counts))
    by_count n (at_end end same at) =
        read_last (counts_of files) missing missing _ (omega (arith, at, many, many_counts)) ∙ sym (get_or_past (counts_of files) _ missing (omega (arith, end, many, many_counts)))
    by_count n (nowhere end other at) = read_past (counts_of files) missing missing _ _ (omega (arith, end, many, many_counts)) (omega (arith, at, many, many_counts))

-- what a test of a file's name told
pub name_test : (files : List File) (i : ℕ) (f : File) (text name : List ℕ) (answer told : Bool) → i < length files → f ≡ get_or files i f → text ≡ string_bytes f.name →
    answer ≡ pointwise nat_eq text name → answer ≡ told →
    pointwise nat_eq (get_or (names_of files) i []) name ≡ told
name_test files i f text name answer told inside read is tested by =
    let there : get_or (names_of files) i [] ≡ string_bytes f.name =
    get_or-map (λ (x : File). string_bytes x.name) files i f [] inside ∙ ap (λ (x : File). string_bytes x.name) (sym read)
    in
    rw there (rw (← is) (sym tested ∙ by))

-- the bytes behind those that were taken, as the code cuts them out
rest_is : (bytes : List ℕ) (taken start : ℕ) → start ≡ min taken (length bytes) → take (length bytes - start) (drop start bytes) ≡ drop taken bytes
rest_is bytes taken start at = grind (arith, common_steps, drop_of_length-le)

pub copy_moves : (bytes buffer got : List ℕ) (taken start k piece n : ℕ) → start ≡ min taken (length bytes) → got ≡ take n (take (length bytes - start) (drop start bytes)) →
    k ≡ min (length (take (length bytes - start) (drop start bytes))) piece → n ≡ min k (length buffer) → 1 ≤ piece → 0 < length buffer →
    (take n (got ++ drop n buffer) ++ drop (taken + n) bytes ≡ drop taken bytes) × (n ≡ 0 → drop taken bytes ≡ [])
copy_moves bytes buffer got taken start k piece n at is k_is n_is some room =
    let rest = rest_is bytes taken start at in
    let got_is = rw rest at is in
    let k_at = rw rest at k_is in
    moved got_is (omega (arith, k_at)) (λ none. omega (arith, k_at))
  where
    moved : got ≡ take n (drop taken bytes) → n ≤ length (drop taken bytes) → (n ≡ 0 → length (drop taken bytes) ≡ 0) →
        (take n (got ++ drop n buffer) ++ drop (taken + n) bytes ≡ drop taken bytes) × (n ≡ 0 → drop taken bytes ≡ [])
    moved got_is within none =
        let R = drop taken bytes in
        let long : length got ≡ n = ap length got_is ∙ length-take-le n (drop taken bytes) within in
        let front : take n (got ++ drop n buffer) ≡ take n (drop taken bytes) =
        take-append-le n got (drop n buffer) (omega (arith, long)) ∙ ap (take n) got_is ∙ take-take n n (drop taken bytes) (omega arith)
        in
        let back : drop (taken + n) bytes ≡ drop n (drop taken bytes) = sym (drop-drop n taken bytes) in
        (rw (front, back) (take-append-drop n (drop taken bytes)), λ e. nil_from_length (drop taken bytes) (none e))

-- ---- the names of files

missing_as : (old new : List File) → names_of new ≡ names_of old → length new ≡ length old → (name : List ℕ) → HasNoFile new name → HasNoFile old name
missing_as old new names many name e = ap (λ ns. number_of ns name) (sym names) ∙ e ∙ many

pub same_missing : (old new : List File) → names_of new ≡ names_of old → length new ≡ length old → (name : List ℕ) → HasNoFile new name ↔ HasNoFile old name
same_missing old new names many name = (missing_as old new names many name, missing_as new old (sym names) (sym many) name)

-- what a file in place of another of its name does to the names
pub record SetsName (old new : List File) (name : List ℕ) : Type 0 where
  pub added : HasNoFile new name → ⊥
  pub others : LeavesOtherNames old new name
  pub count : CountsName old new name

pub set_adds : (files : List File) (i : ℕ) (f d : File) (name : List ℕ) → i ≡ number_of (names_of files) name → i < length files →
    string_bytes f.name ≡ string_bytes (get_or files i d).name → SetsName files (set files i f) name
set_adds files i f d name at inside nm =
    let names : names_of (set files i f) ≡ names_of files = same_names files i f d nm in
    let many : length (set files i f) ≡ length files = length-set files i f in
    record {
      added = λ e. let old : HasNoFile files name = missing_as files (set files i f) names many name e in omega (arith, at, old, inside);
      others = λ n differ. same_missing files (set files i f) names many n;
      count = record { new_name = λ none. absurd (omega (arith, at, none, inside)); old_name = λ some. many };
    }

-- a name stands for a file or for the missing one
pub number_within : (files : List File) (name : List ℕ) → number_of (names_of files) name ≤ length files
number_within files name =
    let within : number_of (names_of files) name ≤ length (names_of files) = prefix_len-le-length _ (names_of files) in
    omega (arith, within, length-map files (λ (x : File). string_bytes x.name))

-- a number at the end of the files is that of no file
pub not_there : (files : List File) (name : List ℕ) (i : ℕ) → i ≡ number_of (names_of files) name → length files ≤ i → number_of (names_of files) name ≡ length files
not_there files name i at past = omega (arith, at, past, number_within files name)

pub push_adds : (files : List File) (f : File) (name : List ℕ) → number_of (names_of files) name ≡ length files → string_bytes f.name ≡ name → SetsName files (files ++ f ∷ []) name
push_adds files f name absent nm = record {
  added = λ e. by_name (sym (ap (λ ns. number_of ns name) names) ∙ e) (stands N name name);
  others = λ n differ. by_other n differ (stands N name n);
  count = record { new_name = λ none. longer; old_name = λ some. absurd (some absent) };
}
  where
    N : List (List ℕ)
    N = names_of files

    names : names_of (files ++ f ∷ []) ≡ N ++ name ∷ []
    names = map-append (λ (x : File). string_bytes x.name) files (f ∷ []) ∙ ap (λ v. N ++ v ∷ []) nm

    many : length N ≡ length files
    many = length-map files (λ (x : File). string_bytes x.name)

    longer : length (files ++ f ∷ []) ≡ length files + 1
    longer = length-append files (f ∷ [])

    by_name : number_of (N ++ name ∷ []) name ≡ length (files ++ f ∷ []) → Stands N name name → ⊥
    by_name e (before inside at) = absurd (omega (arith, many, inside, absent))
    by_name e (at_end end same at) = absurd (omega (arith, at, e, longer, many))
    by_name e (nowhere end differ at) = absurd (differ refl)

    by_other : (n : List ℕ) → n ≢ name → Stands N name n → HasNoFile (files ++ f ∷ []) n ↔ HasNoFile files n
    by_other n differ (before inside at) =
        (λ e. absurd (omega (arith, ap (λ ns. number_of ns n) names, e, at, inside, longer, many)), λ e. absurd (omega (arith, e, inside, many)))
    by_other n differ (at_end end same at) = absurd (differ same)
    by_other n differ (nowhere end other at) = (λ e. omega (arith, end, many), λ e. ap (λ ns. number_of ns n) names ∙ omega (arith, at, longer, many))
