-- What a database answers after a write.
use Rattle.std.proofs.Common.{◌≡◌, refl, ap, ◌∙◌, ℕ, Bool, true, false, ◌&&◌, ◌||◌, cond, List, [], Option, Some, None, Result, Ok, Err, OnErr, rules}
use Rattle.std.specs.Prelude.{String, bytes_eq, option_map, unwrap_or}
use Rattle.std.specs.String.{string_bytes}
use Rattle.std.specs.List.{list_any}
use Rattle.std.specs.Map.{lookup}
use Rattle.std.proofs.lemmas.Bool.{eqb-true}
use Rattle.indexmap.specs.IndexMap.{IndexMap, IsEmpty, get, get_by_text}
use Rattle.tree_ids.specs.declared.ids.BlockId.{BlockId}
use Rattle.tree_ids.specs.declared.ids.FileId.{FileId}
use Rattle.tree_ids.specs.declared.ids.HirFileId.{HirFileId}
use Rattle.tree_ids.specs.declared.ids.HirFileId.TheVariants.{File, Macro}
use Rattle.tree_ids.specs.declared.ids.TreeId.{TreeId}
use Rattle.tree_ids.specs.contracts.ids.HirFileIdPartialEq.TheImpl as files
use Rattle.tree_ids.specs.contracts.ids.TreeIdPartialEq.TheImpl as trees
use Rattle.tree_ids.specs.declared.name.Name.{Name}
use Rattle.def_bindings.specs.Content.{is_name}
use Rattle.def_modules.specs.Equality.{file_eq}
use Rattle.def_modules.specs.Updates.{set_where}
use Rattle.def_database.specs.declared.database.AssocKey.{AssocKey}
use Rattle.def_database.specs.declared.database.AssocKey.TheVariants.{Trait, Impl, Expansion}
use Rattle.def_database.specs.contracts.database.AssocKeyPartialEq.TheImpl as assoc_keys
use Rattle.def_database.specs.Database.{assoc_key_eq, file_id_eq, is_read_attr, path_in, tree_eq}
use Rattle.def_database.specs.Filling.{with_lead}

module _ {K X Y S : Type 0} (eq : K → K → Bool) (f : Option X → Y) (old new : IndexMap K X S) (k : K) (x : X) where
  -- a write, where what is found is read by a function
  pub read-set : ((q : K) → get eq new q ≡ cond (eq k q) (Some x) (get eq old q)) → (λ (q : K). f (get eq new q)) ≡ set_where (eq k) (f (Some x)) (λ (q : K). f (get eq old q))
  read-set written = λ i q. at q i
    where
      by : (b : Bool) (o : Option X) → f (cond b (Some x) o) ≡ cond b (f (Some x)) (f o)
      by true o = refl
      by false o = refl

      at : (q : K) → f (get eq new q) ≡ set_where (eq k) (f (Some x)) (λ (q : K). f (get eq old q)) q
      at q = ap f (written q) ∙ by (eq k q) (get eq old q)

-- a write, where each value is shown by a function
pub shown-set : {K X Y S : Type 0} (eq : K → K → Bool) (f : X → Y) (old new : IndexMap K X S) (k : K) (x : X)
    → ((q : K) → get eq new q ≡ cond (eq k q) (Some x) (get eq old q)) → (λ (q : K). option_map f (get eq new q)) ≡ set_where (eq k) (Some (f x)) (λ (q : K). option_map f (get eq old q))
shown-set eq f = read-set eq (option_map f)

-- what is so anyway is so of a refused call
pub refused : {T E : Type 0} (r : Result T E) {P : Type 0} → P → OnErr r P
refused (Ok x) h = search rules
refused (Err e) h = h

file-same : (f g : HirFileId) → files.ghosts.eq f g ≡ file_eq f g
file-same (File f) (File g) = refl
file-same (File f) (Macro g) = refl
file-same (Macro f) (File g) = refl
file-same (Macro f) (Macro g) = refl

-- the derived test of files is that of the definitions
pub files_same : files.ghosts.eq ≡ file_eq
files_same = λ i f g. file-same f g i

abbrev tree_at : HirFileId → Option BlockId → TreeId
tree_at file block = record { file = file; block = block }

tree-same : (f g : HirFileId) (a b : Option BlockId) → trees.ghosts.eq (tree_at f a) (tree_at g b) ≡ tree_eq (tree_at f a) (tree_at g b)
tree-same (File f) (Macro g) a b = refl
tree-same (Macro f) (File g) a b = refl
tree-same (File f) (File g) None None = refl
tree-same (File f) (File g) None (Some b) = refl
tree-same (File f) (File g) (Some a) None = refl
tree-same (File f) (File g) (Some a) (Some b) = refl
tree-same (Macro f) (Macro g) None None = refl
tree-same (Macro f) (Macro g) None (Some b) = refl
tree-same (Macro f) (Macro g) (Some a) None = refl
tree-same (Macro f) (Macro g) (Some a) (Some b) = refl

-- the derived test of trees is that of the definitions
pub trees_same : trees.ghosts.eq ≡ tree_eq
trees_same = λ i a b. tree-same a.file b.file a.block b.block i

or_false : (b : Bool) → (b || false) ≡ b
or_false true = refl
or_false false = refl

-- where no name was written down, an attribute is no macro if definitions are collected by it
pub none_inert : (names : List Name) → names ≡ [] → (λ (name : Name). is_read_attr name || list_any (is_name name) names) ≡ is_read_attr
none_inert names none = λ i name. (ap (λ ns. is_read_attr name || list_any (is_name name) ns) none ∙ or_false (is_read_attr name)) i

assoc_key-same : (a b : AssocKey) → assoc_keys.ghosts.eq a b ≡ assoc_key_eq a b
assoc_key-same (Trait a) (Trait b) = refl
assoc_key-same (Trait a) (Impl b) = refl
assoc_key-same (Trait a) (Expansion b) = refl
assoc_key-same (Impl a) (Trait b) = refl
assoc_key-same (Impl a) (Impl b) = refl
assoc_key-same (Impl a) (Expansion b) = refl
assoc_key-same (Expansion a) (Trait b) = refl
assoc_key-same (Expansion a) (Impl b) = refl
assoc_key-same (Expansion a) (Expansion b) = refl

-- the derived test of what associated items are found by is that of the definitions
pub assoc_keys_same : assoc_keys.ghosts.eq ≡ assoc_key_eq
assoc_keys_same = λ i a b. assoc_key-same a b i

same_file : (a b : FileId) → file_id_eq a b ≡ true → a ≡ b
same_file a b e = ap (λ (n : ℕ). let x : FileId = record { 0 = n } in x) (eqb-true a.0 b.0 e)

-- where a path of a file leads, also if no path of it does
led_in : {Y S : Type 0} (fresh : IndexMap (String Y) FileId S) → IsEmpty fresh → (text : List ℕ) (o : Option (IndexMap (String Y) FileId S)) → get_by_text (unwrap_or o fresh) text ≡ path_in o text
led_in fresh empty text None = ap (λ es. lookup (λ k. bytes_eq text (string_bytes k)) es) empty
led_in fresh empty text (Some paths) = refl

module _ {Y S : Type 0} (from : FileId) (old new : FileId → Option (IndexMap (String Y) FileId S)) (fresh inner : IndexMap (String Y) FileId S) where
  -- the map of a file's paths, or a fresh one, is written anew, and leads where it led
  pub kept : ((q : FileId) → new q ≡ cond (file_id_eq from q) (Some inner) (old q))
      → IsEmpty fresh
      → get_by_text inner ≡ get_by_text (unwrap_or (old from) fresh)
      → ◌≡◌ {A = FileId → List ℕ → Option FileId} (λ anchor text. path_in (new anchor) text) (λ anchor text. path_in (old anchor) text)
  kept written empty same = λ i q text. (ap (λ o. path_in o text) (written q) ∙ by q text (file_id_eq from q) refl) i
    where
      by : (q : FileId) (text : List ℕ) (b : Bool) → file_id_eq from q ≡ b → path_in (cond b (Some inner) (old q)) text ≡ path_in (old q) text
      by q text false e = refl
      by q text true e = ap (λ f. f text) same ∙ led_in fresh empty text (old from) ∙ ap (λ k. path_in (old k) text) (same_file from q e)

module _ {Y S : Type 0} (from : FileId) (path : List ℕ) (to : FileId) (old new : FileId → Option (IndexMap (String Y) FileId S)) (fresh inner : IndexMap (String Y) FileId S) where
  -- one more path of a file, in the map of its paths or in a fresh one
  pub led : ((q : FileId) → new q ≡ cond (file_id_eq from q) (Some inner) (old q))
      → IsEmpty fresh
      → get_by_text inner ≡ set_where (bytes_eq path) (Some to) (get_by_text (unwrap_or (old from) fresh))
      → (λ (anchor : FileId) (text : List ℕ). path_in (new anchor) text) ≡ with_lead (λ (anchor : FileId) (text : List ℕ). path_in (old anchor) text) from path to
  led written empty added = λ i q text. (ap (λ o. path_in o text) (written q) ∙ by q text (file_id_eq from q) refl) i
    where
      by : (q : FileId) (text : List ℕ) (b : Bool) → file_id_eq from q ≡ b → path_in (cond b (Some inner) (old q)) text ≡ cond (b && bytes_eq path text) (Some to) (path_in (old q) text)
      by q text false e = refl
      by q text true e = ap (λ f. f text) added ∙ ap (λ o. cond (bytes_eq path text) (Some to) o) (led_in fresh empty text (old from) ∙ ap (λ k. path_in (old k) text) (same_file from q e))
