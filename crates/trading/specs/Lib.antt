-- What the code of entry, amendment and exclusion needs beside the laws: its tables.
pub mod Tables
