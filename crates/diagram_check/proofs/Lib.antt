mod RowsChecked
